use Rattle.std.proofs.Common.{ℕ, List, subst}
use Rattle.std.specs.List.{IsDistinct}
use Rattle.std.specs.Str.{bytes_eq}
use Rattle.mp_names.proofs.Apart.{distinct_map}
use Rattle.mp_names.proofs.list.NameList.distinct.Goals as goal

pub returns : goal.returns
returns c = subst (λ (names : List (List ℕ)). IsDistinct bytes_eq names) c.as_slice.ensures.names (distinct_map (λ k. k.now) bytes_eq c.as_slice.result.now c.as_slice.ensures.once)
