-- Room for one more name.
use Rattle.std.proofs.Common.{◌≡◌, ◌≢◌, ◌↔◌, IsTrue, ℕ, ◌+◌, ◌<◌, ◌^◌, length, List, [], ◌∷◌, ◌++◌, Bool, true, false, cond, true≢false, ap, sym, ◌∙◌, subst, arith}
use Rattle.std.specs.List.{list_any}
use Rattle.std.specs.Str.{bytes_eq}
use Rattle.std.proofs.lemmas.List.{length-append}
use Rattle.mp_names.specs.Full.{IsFull}

one_more : (n : ℕ) → n + 1 < 2 ^ 32 → n + 2 ≢ 2 ^ 32 → n + 1 + 1 < 2 ^ 32
one_more n h differs = omega (arith, h, differs)

-- the names after one more that is new or for which there is room
pub room_left : {K : Type 0} (keys new : List K) (key : K) (names : List (List ℕ)) (name : List ℕ) (full there : Bool) → length names ≡ length keys → list_any (bytes_eq name) names ≡ there → new ≡ cond there keys (keys ++ key ∷ []) → length keys + 1 < 2 ^ 32 → full ≡ false → (IsTrue full ↔ IsFull names name) → length new + 1 < 2 ^ 32
room_left keys new key names name full true many there is few room decides = subst (λ (l : List _). length l + 1 < 2 ^ 32) (sym is) few
room_left keys new key names name true false many there is few room decides = absurd cc
room_left keys new key names name false false many there is few room decides =
    let differs : length keys + 2 ≢ 2 ^ 32 = λ e. true≢false (sym (decides.1 (ap (λ (n : ℕ). n + 2) many ∙ e, there))) in
    subst (λ (l : List _). length l + 1 < 2 ^ 32) (sym is) (subst (λ (n : ℕ). n + 1 < 2 ^ 32) (sym (length-append keys (key ∷ []))) (one_more (length keys) few differs))
