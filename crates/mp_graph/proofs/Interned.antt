-- What a graph has after a node was put into it.
use Rattle.std.proofs.Common.{◌≡◌, ℕ, ◌<◌, Bool, true, false, cond, List, [], ◌∷◌, ◌++◌, length, slice_get, Some, ap, sym, ◌∙◌, refl, subst, inl, inr, arith}
use Rattle.std.proofs.lemmas.Grind.{common_steps}
use Rattle.std.specs.List.{AllByRecursion, IsDistinct}
use Rattle.mp_semantics.specs.Term.{Term}
use Rattle.mp_graph.specs.declared.op.NodeOp.{NodeOp}
use Rattle.mp_graph.specs.declared.graph.Node.{Node}
use Rattle.mp_graph.specs.contracts.graph.NodePartialEq.TheImpl.{eq-value}
use Rattle.mp_graph.specs.Op.{arity, IsLawful, over}
use Rattle.mp_values.specs.Names.{Names}
use Rattle.mp_graph.specs.Nodes.{terms_of, FitsAt, IsSound}
use Rattle.mp_graph.specs.Shared.{Shared, term_at, Keeps, GrowsBy}
use Rattle.mp_graph.proofs.Nodes.{terms_of-push, length-terms_of, node_term, get_at, over_same, IsSound-push}
use Rattle.mp_graph.proofs.Kept.{keeps-push, keeps-refl}
use Rattle.mp_graph.proofs.Same.{node_eq, apart}

abbrev pub shared : Names → List Term → Shared
shared names ts = record { names = names; terms = ts }

pub record Interned (names : Names) (op : NodeOp) (kids : List ℕ) (ts : List Term) (ks : List Node) (i : ℕ) : Type 0 where
  pub sound : IsSound names ks
  pub term : term_at (terms_of ks) i ≡ over ts op kids
  pub within : i < length (terms_of ks)
  pub grown : GrowsBy (over ts op kids) i ts (terms_of ks)
  pub kept : Keeps (shared names ts) (shared names (terms_of ks))

last_at : (ns : List Node) (n : Node) → slice_get (ns ++ n ∷ []) (length ns) ≡ Some n
last_at [] n = refl
last_at (m ∷ ns) n = last_at ns n

module _ (names : Names) where
  by_case : (b : Bool) (ns ks : List Node) (n : Node) (i : ℕ) → IsSound names ns → FitsAt names (length ns) n → ks ≡ cond b ns (ns ++ n ∷ [])
      → IsDistinct (eq-value).it ks → slice_get ks i ≡ Some n → Interned names n.op n.kids (terms_of ns) ks i
  by_case true ns ks n i o f e u g =
      let o' : IsSound names ks = subst (λ l. IsSound names l) (sym e) o in
      let v : terms_of ks ≡ terms_of ns = ap terms_of e in
      record {
        sound = o';
        term = node_term names ks o' i n g ∙ ap (λ ts. over ts n.op n.kids) v;
        within = omega (arith, get_at ks i n g, length-terms_of ks);
        grown = inl v;
        kept = subst (λ ts. Keeps (shared names (terms_of ns)) (shared names ts)) (sym v) (keeps-refl (shared names (terms_of ns)));
      }
  by_case false ns ks n i o f e u g =
      let o' : IsSound names ks = subst (λ l. IsSound names l) (sym e) (IsSound-push names ns n o f) in
      let v : terms_of ks ≡ terms_of ns ++ over (terms_of ns) n.op n.kids ∷ [] = ap terms_of e ∙ terms_of-push ns n in
      let at : i ≡ length ns = apart ks u i (length ns) n g (subst (λ l. slice_get l (length ns) ≡ Some n) (sym e) (last_at ns n)) in
      record {
        sound = o';
        term =
            node_term names ks o' i n g ∙ ap (λ ts. over ts n.op n.kids) v
            ∙ over_same (terms_of ns ++ over (terms_of ns) n.op n.kids ∷ []) (terms_of ns) (length ns)
            (λ k l. let h = length-terms_of ns in grind (arith, common_steps, h)) n.kids f.below n.op f.count;
        within = omega (arith, get_at ks i n g, length-terms_of ks);
        grown = inr (v, at ∙ sym (length-terms_of ns));
        kept = subst (λ ts. Keeps (shared names (terms_of ns)) (shared names ts)) (sym v) (keeps-push names (terms_of ns) (over (terms_of ns) n.op n.kids));
      }

  pub interned : (b : Bool) (ns ks : List Node) (ts : List Term) (op : NodeOp) (held kids : List ℕ) (i : ℕ) (k : Node)
      → IsSound names ns → terms_of ns ≡ ts → held ≡ kids
      → AllByRecursion (λ j. j < length ts) kids → length kids ≡ arity op → IsLawful names op
      → ks ≡ cond b ns (ns ++ record { op = op; kids = held } ∷ []) → IsDistinct (eq-value).it ks
      → slice_get ks i ≡ Some k → (eq-value).it (record { op = op; kids = held }) k ≡ true → Interned names op kids ts ks i
  interned b ns ks ts op held kids i k o v h below count lawful e u g same =
      let n : Node = record { op = op; kids = held } in
      let w : length ns ≡ length ts = sym (length-terms_of ns) ∙ ap length v in
      let f : FitsAt names (length ns) n = record {
        lawful = lawful;
        count = ap length h ∙ count;
        below = subst (λ (m : ℕ). AllByRecursion (λ j. j < m) held) (sym w) (subst (λ l. AllByRecursion (λ j. j < length ts) l) (sym h) below);
      } in
      subst (λ l. Interned names op l ts ks i) h (subst (λ us. Interned names op held us ks i) v
      (by_case b ns ks n i o f e u (g ∙ ap Some (sym (node_eq n k same)))))
