-- A number as the definitions see it.
use Rattle.mp_tokens.specs.Literals as spec
use Rattle.mp_literal.specs.declared.value.Decimal.{Decimal}

abbrev pub shown : Decimal → spec.Decimal
shown d = record { m = d.m; s = d.s }
