-- What a text can write with choices.
use Rattle.mp_semantics.specs.Term.{Term, leaf, negative, binary, power_of, pick}
use Rattle.mp_values.specs.Names.{Names}
use Rattle.mp_canonical.proofs.Writable.{IsWritable}
use Rattle.mp_derivatives.specs.Meant.{IsPrintableDerivative}

pub printable_writable : (ns : Names) (t : Term) → IsPrintableDerivative ns t → IsWritable (Unit {0}) ns t
printable_writable ns (leaf l) h = h
printable_writable ns (negative a) h = printable_writable ns a h
printable_writable ns (binary op a b) h = (printable_writable ns a h.0, printable_writable ns b h.1)
printable_writable ns (power_of a k) h = printable_writable ns a h
printable_writable ns (pick a b c d) h =
    (tt, printable_writable ns a h.0.0, printable_writable ns b h.0.1, printable_writable ns c h.1.0, printable_writable ns d h.1.1)

pub writable_printable : (ns : Names) (t : Term) → IsWritable (Unit {0}) ns t → IsPrintableDerivative ns t
writable_printable ns (leaf l) h = h
writable_printable ns (negative a) h = writable_printable ns a h
writable_printable ns (binary op a b) h = (writable_printable ns a h.0, writable_printable ns b h.1)
writable_printable ns (power_of a k) h = writable_printable ns a h
writable_printable ns (pick a b c d) h =
    ((writable_printable ns a h.1, writable_printable ns b h.2), (writable_printable ns c h.3, writable_printable ns d h.4))
