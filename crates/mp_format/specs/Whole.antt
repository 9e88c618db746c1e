-- A format as a part of others.
use Rattle.std.specs.Prelude.{List}
use Rattle.mp_format.specs.Pieces.{Script}
use Rattle.mp_format.specs.Format.{Look, PartLaws, Part, Format, Reads, ending, read, Alike, Made}

-- the laws of a part that means what this format means
abbrev pub WholeLaws : {T X : Type 0} → List Look → List Look → Script T X → Format X → (T → Type 0) → Type 1
WholeLaws first more w f Fits = PartLaws first more w (Reads f) (read f) (ending f).0 (ending f).1 (Alike f) Fits (Made f)

-- a format as a part of others: it means what the format means, and its script writes the trees that fit
unfoldable pub whole : {T X : Type 0} (first more : List Look) (w : Script T X) (f : Format X) (Fits : T → Type 0) → WholeLaws first more w f Fits → Part first more w
whole first more w f Fits laws =
    record {
      Reads = Reads f;
      read = read f;
      ending = (ending f).0;
      value = (ending f).1;
      Alike = Alike f;
      Fits = Fits;
      Made = Made f;
      laws = laws;
    }
