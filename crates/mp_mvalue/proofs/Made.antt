-- Arrays within the limits, and over them.
use Rattle.std.proofs.Common.{◌≡◌, ℕ, ◌+◌, ◌≤◌, ◌<◌, ◌∷◌, [], ◌++◌, max, min, sym, ap, ◌∙◌, List, length, true, nat_le, ◌&&◌, Ok, Err, length-append, arith}
use Rattle.std.proofs.lemmas.List.{map_push}
use Rattle.mp_base.specs.declared.kinds.MacroKind.TheVariants.{ArrayLimit, TextLimit}
use Rattle.mp_mvalue.specs.declared.value.Value.{Value}
use Rattle.mp_mvalue.specs.declared.value.Value.TheVariants as v
use Rattle.mp_mvalue.specs.declared.sharing.SharedValue.{SharedValue}
use Rattle.mp_mvalue.specs.declared.gathered.Gathered.{Gathered}
use Rattle.mp_mvalue.specs.Gathers.{Gathers}
use Rattle.mp_mvalue.specs.Made.{made}
use Rattle.mp_mvalue.specs.Measures.{spread, IsMeasured}
use Rattle.mp_mvalue.specs.Shared.{unshared, all_unshared}
use Rattle.mp_mvalue.specs.Values.{depth, deepest, shown}
use Rattle.mp_mvalue.proofs.Lengths.{length-printed, spread-append, deepest-append}

pub made-many : (xs : List Value) → 100000 < length xs → made xs ≡ Err ArrayLimit
made-many xs lt = grind arith

pub made-deep : (xs : List Value) → 99 < deepest xs → made xs ≡ Err ArrayLimit
made-deep xs lt = grind arith

pub made-long : (xs : List Value) → length xs ≤ 100000 → deepest xs ≤ 99 → 8388608 < spread xs → made xs ≡ Err TextLimit
made-long xs few flat lt = grind (arith, length-printed xs)

pub made-within : (xs : List Value) → length xs ≤ 100000 → deepest xs ≤ 99 → spread xs ≤ 8388608 → made xs ≡ Ok (v.List xs)
made-within xs few flat short = grind (arith, length-printed xs)

pub ruleset making = (made-many, made-deep, made-long, made-within)

pub push-unshared : (xs : List SharedValue) (x : SharedValue) → all_unshared (xs ++ x ∷ []) ≡ all_unshared xs ++ unshared x ∷ []
push-unshared xs x = map_push unshared xs x

pub ruleset pushing = (push-unshared)

-- one element more
pub gathers-with : (g h : Gathered) (xs : List Value) (x : Value) → Gathers g xs → h.count ≡ min 100001 (g.count + 1) → h.deepest ≡ max g.deepest (min 100 (depth x)) → h.length ≡ min 8388609 (g.length + min 8388609 (length (shown x) + 2)) → (h.count ≤ 100000 → h.deepest ≤ 99 → h.length ≤ 8388608 → all_unshared h.kept ≡ all_unshared g.kept ++ x ∷ []) → Gathers h (xs ++ x ∷ [])
gathers-with g h xs x gathers count deep long keeps =
    let counted : length (xs ++ x ∷ []) ≡ length xs + 1 = length-append xs (x ∷ []) in
    let deeper : deepest (xs ++ x ∷ []) ≡ max (deepest xs) (depth x) = grind (arith, deepest-append xs (x ∷ [])) in
    let longer : spread (xs ++ x ∷ []) ≡ spread xs + (length (shown x) + 2) = omega (arith, spread-append xs (x ∷ [])) in
    record {
      count = grind (arith, counted, count, gathers.count);
      deepest = grind (arith, deeper, deep, gathers.deepest);
      length = grind (arith, longer, long, gathers.length);
      kept = λ w.
          let few : length xs ≤ 100000 = omega (arith, counted, w.0) in
          let flat : deepest xs ≤ 99 = grind (arith, deeper, w.1) in
          let short : spread xs ≤ 8388608 = omega (arith, longer, w.2) in
          keeps (grind (arith, counted, count, gathers.count, w.0)) (grind (arith, deeper, deep, gathers.deepest, w.1)) (grind (arith, longer, long, gathers.length, w.2))
          ∙ ap (λ ys. ys ++ x ∷ []) (gathers.kept (few, flat, short));
    }

-- what is measured of elements, and of one more
pub measured-with : (before after : List SharedValue) (all : List Value) (x : SharedValue) (depth' size' deep long : ℕ) → all_unshared before ≡ all → after ≡ before ++ x ∷ [] → deep ≡ min 100 (deepest all) → long ≡ min 8388609 (spread all) → depth' ≡ max deep (min 100 (depth (unshared x))) → size' ≡ min 8388609 (long + min 8388609 (length (shown (unshared x)) + 2)) → IsMeasured (all_unshared after) depth' size'
measured-with before after all x depth' size' deep long same pushed d l deeper longer =
    let elements : all_unshared after ≡ all ++ unshared x ∷ [] = ap all_unshared pushed ∙ push-unshared before x ∙ ap (λ ys. ys ++ unshared x ∷ []) same in
    let one : deepest (all ++ unshared x ∷ []) ≡ max (deepest all) (depth (unshared x)) = grind (arith, deepest-append all (unshared x ∷ [])) in
    let more : spread (all ++ unshared x ∷ []) ≡ spread all + (length (shown (unshared x)) + 2) = omega (arith, spread-append all (unshared x ∷ [])) in
    let e = ap deepest elements in
    let f = ap spread elements in
    (grind (arith, e, one, d, deeper), grind (arith, f, more, l, longer))

pub within-true : (count depth size : ℕ) → count ≤ 100000 → depth ≤ 99 → size ≤ 8388608 → (nat_le count 100000 && nat_le depth 99 && nat_le size 8388608) ≡ true
within-true count depth size few flat short = grind arith

-- what is known of gathered elements at the end
module _ (g : Gathered) (xs : List Value) (gathers : Gathers g xs) where
  pub finished-many : 100000 < g.count → made xs ≡ Err ArrayLimit
  finished-many many = made-many xs (grind (arith, gathers.count, many))

  pub finished-deep : 99 < g.deepest → made xs ≡ Err ArrayLimit
  finished-deep deep = made-deep xs (grind (arith, gathers.deepest, deep))

  module _ (few : g.count ≤ 100000) (flat : g.deepest ≤ 99) where
    few-elements : length xs ≤ 100000
    few-elements = grind (arith, gathers.count, few)

    flat-elements : deepest xs ≤ 99
    flat-elements = grind (arith, gathers.deepest, flat)

    pub finished-long : 8388608 < g.length → made xs ≡ Err TextLimit
    finished-long long = made-long xs few-elements flat-elements (grind (arith, gathers.length, long))

    module _ (short : g.length ≤ 8388608) where
      short-elements : spread xs ≤ 8388608
      short-elements = grind (arith, gathers.length, short)

      same-elements : all_unshared g.kept ≡ xs
      same-elements = gathers.kept (few-elements, flat-elements, short-elements)

      pub finished-depth : g.deepest ≡ deepest (all_unshared g.kept)
      finished-depth =
          let e : g.deepest ≡ deepest xs = grind (arith, gathers.deepest, flat-elements) in
          e ∙ ap deepest (sym same-elements)

      pub finished-size : g.length ≡ spread (all_unshared g.kept)
      finished-size =
          let e : g.length ≡ spread xs = grind (arith, gathers.length, short-elements) in
          e ∙ ap spread (sym same-elements)

      pub finished-value : made xs ≡ Ok (v.List (all_unshared g.kept))
      finished-value =
          made-within xs few-elements flat-elements short-elements ∙ ap (λ ys. Ok (v.List ys)) (sym same-elements)
