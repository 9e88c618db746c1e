-- The text of an operator with its operands.
use Rattle.std.proofs.Common.{◌≡◌, ℕ, List, [], ◌++◌, codes, append-nil, refl, ap, sym}
use Rattle.mp_semantics.specs.Term.{Term, binary, pick}
use Rattle.mp_syntax.specs.Syntax.{Expr}
use Rattle.mp_values.specs.Names.{Names}
use Rattle.mp_graph.specs.declared.op.BinaryOp.{BinaryOp}
use Rattle.mp_graph.specs.declared.op.BinaryOp.TheVariants.{Add, Sub, Mul, Div, Min, Max}
use Rattle.mp_graph.specs.Op.{binary_of}
use Rattle.mp_canonical.specs.Terms.{operation, is_loose, is_loose_right, fenced, canonical}
use Rattle.mp_canonical.specs.Spelled.{spelled}
use Rattle.mp_print_model.specs.Parts.{before, between, after}

spelled_infix : (x between y : List ℕ) → x ++ (between ++ y) ≡ x ++ (between ++ (y ++ []))
spelled_infix x between y = ap (λ l. x ++ (between ++ l)) (sym (append-nil y))

spelled_operation : (op : BinaryOp) (x y : Expr) → spelled (operation (binary_of op) x y) ≡ before op ++ (spelled x ++ (between op ++ (spelled y ++ after op)))
unfolding spelled
spelled_operation Add x y = spelled_infix (spelled x) (between Add) (spelled y)
spelled_operation Sub x y = spelled_infix (spelled x) (between Sub) (spelled y)
spelled_operation Mul x y = spelled_infix (spelled x) (between Mul) (spelled y)
spelled_operation Div x y = spelled_infix (spelled x) (between Div) (spelled y)
spelled_operation Min x y = refl
spelled_operation Max x y = refl

pub operation_text : (ns : Names) (op : BinaryOp) (a b : Term) → spelled (canonical ns (binary (binary_of op) a b)) ≡ before op ++ (spelled (fenced (is_loose (binary_of op) a) (canonical ns a)) ++ (between op ++ (spelled (fenced (is_loose_right (binary_of op) b) (canonical ns b)) ++ after op)))
unfolding canonical
operation_text ns op a b = spelled_operation op (fenced (is_loose (binary_of op) a) (canonical ns a)) (fenced (is_loose_right (binary_of op) b) (canonical ns b))

pub pick_text : (ns : Names) (a b c d : Term) → spelled (canonical ns (pick a b c d)) ≡ codes "pick(" ++ (spelled (canonical ns a) ++ (codes "," ++ (spelled (canonical ns b) ++ (codes "," ++ (spelled (canonical ns c) ++ (codes "," ++ (spelled (canonical ns d) ++ codes ")")))))))
unfolding canonical spelled
pick_text ns a b c d = refl
