-- The lesser, the greater and the magnitude.
use Rattle.std.proofs.Common.{◌≡◌, Bool, true, false, refl, inl, inr}
use Rattle.std.specs.Prelude.{if◌then◌else◌, ◌⊎◌, ◌↔◌}
use Rattle.mp_rational.specs.Fraction.{Fraction, neg, less, Le, lesser, greater, magnitude}
use Rattle.mp_rational.proofs.Order.{Le-trans, Le_refl, Le_from_less}

-- what holds of both holds of the one that is chosen
pub chosen : (P : Fraction → Type 0) (t : Bool) (x y : Fraction) → P x → P y → P (if t then x else y)
chosen P true x y h k = h
chosen P false x y h k = k

pub lesser_at_most : (x y : Fraction) → Le (lesser x y) x × Le (lesser x y) y
lesser_at_most x y = by (less x y) refl
  where
    by : (t : Bool) → less x y ≡ t → Le (if t then x else y) x × Le (if t then x else y) y
    by true e = (Le_refl x, Le_from_less x y e)
    by false e = (e, Le_refl y)

pub greater_at_least : (x y : Fraction) → Le x (greater x y) × Le y (greater x y)
greater_at_least x y = by (less x y) refl
  where
    by : (t : Bool) → less x y ≡ t → Le x (if t then y else x) × Le y (if t then y else x)
    by true e = (Le_from_less x y e, Le_refl y)
    by false e = (Le_refl x, e)

either : (t : Bool) (x y : Fraction) → ((if t then x else y) ≡ x) ⊎ ((if t then x else y) ≡ y)
either true x y = inl refl
either false x y = inr refl

pub lesser_is_one : (x y : Fraction) → (lesser x y ≡ x) ⊎ (lesser x y ≡ y)
lesser_is_one x y = either (less x y) x y

pub greater_is_one : (x y : Fraction) → (greater x y ≡ y) ⊎ (greater x y ≡ x)
greater_is_one x y = either (less x y) y x

pub magnitude_within : (x b : Fraction) → Le (magnitude x) b ↔ (Le x b × Le (neg x) b)
magnitude_within x b =
    let g = greater_at_least x (neg x) in (
      λ h. (Le-trans x (magnitude x) b g.0 h, Le-trans (neg x) (magnitude x) b g.1 h),
      λ h. chosen (λ z. Le z b) (less x (neg x)) (neg x) x h.1 h.0,
    )
