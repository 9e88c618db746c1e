-- The tag that names an equation is the first of its name.
use Rattle.std.proofs.Common.{◌≡◌, ℕ, ◌+◌, ◌<◌, Bool, true, false, cond, List, map, drop, length, get_or, Option, Some, option_map, codes, sym, ap, ◌∙◌}
use Rattle.std.proofs.lemmas.List.{drop_more}
use Rattle.std.specs.List.{find}
use Rattle.std.specs.Str.{bytes_eq}
use Rattle.mp_statements.specs.Statements as f
use Rattle.mp_statements.specs.Parts.{is_tag, unquoted}
use Rattle.mp_file.specs.declared.Tag.{Tag}
use Rattle.mp_file.specs.Shown.{tag_of}

abbrev pub named : List Tag → Option f.Tag
named tags = find (is_tag (codes "name")) (map tag_of tags)

module _ (seen tags : List Tag) (i : ℕ) (d : Tag) (word : List ℕ) (b : Bool) (whole : Option f.Tag) (same : seen ≡ tags) (within : i < length seen) (is : word ≡ codes "name") (test : b ≡ bytes_eq (get_or seen i d).name.name.now word) (so_far : named (drop i tags) ≡ whole) where
  here : named (drop i tags) ≡ cond b (Some (tag_of (get_or seen i d))) (named (drop (i + 1) tags))
  here =
      ap (λ l. named (drop i l)) (sym same)
      ∙ ap named (drop_more seen i d within)
      ∙ ap (λ t. cond t (Some (tag_of (get_or seen i d))) (named (drop (i + 1) seen))) (sym (test ∙ ap (bytes_eq (get_or seen i d).name.name.now) is))
      ∙ ap (λ l. cond b (Some (tag_of (get_or seen i d))) (named (drop (i + 1) l))) same

  pub found_at : (text : List ℕ) → b ≡ true → text ≡ unquoted (get_or seen i d).text.now → Some text ≡ option_map (λ t. unquoted t.text) whole
  found_at text holds e =
      ap Some e
      ∙ ap (option_map (λ (t : f.Tag). unquoted t.text)) (sym (sym so_far ∙ here ∙ ap (λ t. cond t (Some (tag_of (get_or seen i d))) (named (drop (i + 1) tags))) holds))

  pub other_at : b ≡ false → named (drop (i + 1) tags) ≡ whole
  other_at fails = sym (here ∙ ap (λ t. cond t (Some (tag_of (get_or seen i d))) (named (drop (i + 1) tags))) fails) ∙ so_far
