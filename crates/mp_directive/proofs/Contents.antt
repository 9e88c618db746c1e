-- The reading of a file's lines, by what each line is.
use Rattle.std.proofs.Common.{◌≡◌, ℕ, ◌+◌, List, [], ◌∷◌, ◌++◌, map, length, Result, Ok, Err, refl, sym, ap, ◌∙◌, subst, add-zero, arith}
use Rattle.mp_base.specs.declared.kinds.MacroKind.{MacroKind}
use Rattle.mp_directive.specs.Results.{◌>>=◌}
use Rattle.mp_directive.specs.Lines.{lines}
use Rattle.mp_directive.specs.Directives.{Content, content_of}
use Rattle.mp_directive.specs.Groups.{Reading, Fault, after_line, after_lines, at, whole, groups, nothing_read}
use Rattle.mp_directive.specs.Structure.{contents}

-- what is read after lines of these contents, the first of which has this number
abbrev pub read_from : ℕ → List Content → Reading → Result Reading Fault
read_from line [] r = Ok r
read_from line (c ∷ cs) r = at line (after_line line c r) >>= read_from (line + 1) cs

-- lines are read by what they are
read-contents : (line : ℕ) (ls : List (List ℕ)) (r : Reading) → after_lines line ls r ≡ read_from line (map content_of ls) r
unfolding after_lines
read-contents line [] r = refl
read-contents line (l ∷ ls) r = by (after_line line (content_of l) r) (read-contents (line + 1) ls)
  where
    by : (x : Result Reading MacroKind) → ((q : Reading) → after_lines (line + 1) ls q ≡ read_from (line + 1) (map content_of ls) q) → (at line x >>= after_lines (line + 1) ls) ≡ (at line x >>= read_from (line + 1) (map content_of ls))
    by (Ok q) further = further q
    by (Err kind) further = refl

-- the tree of a file, by what its lines are
pub groups-contents : (bytes : List ℕ) → groups bytes ≡ (read_from 1 (contents bytes) nothing_read >>= whole)
groups-contents bytes = ap (λ x. x >>= whole) (read-contents 1 (lines bytes) nothing_read)

-- lines and then others
read-append : (line : ℕ) (cs ds : List Content) (r : Reading) → read_from line (cs ++ ds) r ≡ (read_from line cs r >>= read_from (line + length cs) ds)
read-append line [] ds r = ap (λ n. read_from n ds r) (sym (add-zero line))
read-append line (c ∷ cs) ds r = by (after_line line c r) (read-append (line + 1) cs ds)
  where
    by : (x : Result Reading MacroKind) → ((q : Reading) → read_from (line + 1) (cs ++ ds) q ≡ (read_from (line + 1) cs q >>= read_from (line + 1 + length cs) ds)) → (at line x >>= read_from (line + 1) (cs ++ ds)) ≡ ((at line x >>= read_from (line + 1) cs) >>= read_from (line + length (c ∷ cs)) ds)
    by (Ok q) further = further q ∙ ap (λ n. read_from (line + 1) cs q >>= read_from n ds) (omega arith)
    by (Err kind) further = refl

pub read-after : (line : ℕ) (cs ds : List Content) (r s : Reading) → read_from line cs r ≡ Ok s → read_from line (cs ++ ds) r ≡ read_from (line + length cs) ds s
read-after line cs ds r s e = read-append line cs ds r ∙ ap (λ x. x >>= read_from (line + length cs) ds) e

pub read-line : (line : ℕ) (c : Content) (cs : List Content) (r s : Reading) → after_line line c r ≡ Ok s → read_from line (c ∷ cs) r ≡ read_from (line + 1) cs s
read-line line c cs r s e = ap (λ x. at line x >>= read_from (line + 1) cs) e

-- a line that is at fault, whatever follows it
pub read-fault : (line : ℕ) (c : Content) (cs : List Content) (r : Reading) (kind : MacroKind) → after_line line c r ≡ Err kind → read_from line (c ∷ cs) r ≡ Err (record { kind = kind; line = line })
read-fault line c cs r kind e = ap (λ x. at line x >>= read_from (line + 1) cs) e

-- where all lines are read, the first ones are
pub read-front : (line : ℕ) (cs ds : List Content) (r s : Reading) → read_from line (cs ++ ds) r ≡ Ok s → (q : Reading) × (read_from line cs r ≡ Ok q) × (read_from (line + length cs) ds q ≡ Ok s)
read-front line cs ds r s e = by (read_from line cs r) refl
  where
    by : (x : Result Reading Fault) → read_from line cs r ≡ x → (q : Reading) × (read_from line cs r ≡ Ok q) × (read_from (line + length cs) ds q ≡ Ok s)
    by (Ok q) is = (q, is, sym (read-after line cs ds r q is) ∙ e)
    by (Err f) is = let no : Err f ≡ Ok s = sym (read-append line cs ds r ∙ ap (λ x. x >>= read_from (line + length cs) ds) is) ∙ e in cc

-- the first line at fault, and what was read before it
pub record FirstFault (line : ℕ) (cs : List Content) (r : Reading) (f : Fault) : Type 0 where
  pub front : List Content
  pub content : Content
  pub rest : List Content
  pub reading : Reading
  pub splits : cs ≡ front ++ content ∷ rest
  pub place : f.line ≡ line + length front
  pub before : read_from line front r ≡ Ok reading
  pub refused : after_line f.line content reading ≡ Err f.kind

pub first-fault : (line : ℕ) (cs : List Content) (r : Reading) (f : Fault) → read_from line cs r ≡ Err f → FirstFault line cs r f
first-fault line [] r f e = cc
first-fault line (c ∷ cs) r f e = by (after_line line c r) refl (λ q. first-fault (line + 1) cs q f)
  where
    by : (x : Result Reading MacroKind) → after_line line c r ≡ x → ((q : Reading) → read_from (line + 1) cs q ≡ Err f → FirstFault (line + 1) cs q f) → FirstFault line (c ∷ cs) r f
    by (Ok q) is further =
        let k : FirstFault (line + 1) cs q f = further q (sym (read-line line c cs r q is) ∙ e) in
        record { front = c ∷ k.front; content = k.content; rest = k.rest; reading = k.reading; splits = ap (λ x. c ∷ x) k.splits; place = omega arith; before = read-line line c k.front r q is ∙ k.before; refused = k.refused }
    by (Err kind) is further =
        let same : record { kind = kind; line = line } ≡ f = cc (read-fault line c cs r kind is) in
        record { front = []; content = c; rest = cs; reading = r; splits = refl; place = ap (λ (g : Fault). g.line) (sym same) ∙ sym (add-zero line); before = refl; refused = subst (λ (g : Fault). after_line g.line c r ≡ Err g.kind) same is }
