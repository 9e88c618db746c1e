-- What a shared value is.
use Rattle.std.specs.Prelude.{List, map}
use Rattle.mp_mvalue.specs.declared.value.Value.{Value}
use Rattle.mp_mvalue.specs.declared.value.Value.TheVariants as v
use Rattle.mp_mvalue.specs.declared.sharing.SharedValue.{SharedValue}
use Rattle.mp_mvalue.specs.declared.sharing.SharedValue.TheVariants as s

-- the value that is shared
abbrev pub unshared : SharedValue → Value
unshared (s.Whole n) = v.Whole n
unshared (s.Truth b) = v.Truth b
unshared (s.Text t) = v.Text t.value
unshared (s.List a) = v.List a.value

-- the values that are shared
abbrev pub all_unshared : List SharedValue → List Value
all_unshared xs = map unshared xs
