-- What parts of a file say one after the other.
use Rattle.std.proofs.Common.{◌≡◌, ℕ, zero, suc, ◌+◌, ◌-◌, ◌≤◌, min, List, [], ◌∷◌, length, Result, Ok, Err, Some, true, refl, sym, ap, ◌∙◌, subst, arith, if◌then◌else◌}
use Rattle.mp_base.specs.Answers.{Gives}
use Rattle.mp_base.specs.declared.kinds.MacroKind.{MacroKind}
use Rattle.mp_base.specs.declared.kinds.MacroKind.TheVariants as k
use Rattle.mp_outside.specs.Outside.{Outside, Listing, Later, lookup}
use Rattle.mp_mvalue.specs.Told.{told}
use Rattle.mp_mvalue.specs.declared.value.Value.{Value}
use Rattle.mp_mvalue.specs.declared.fault.MacroFault.{MacroFault}
use Rattle.mp_mvalue.specs.declared.fault.MacroFault.TheVariants as f
use Rattle.mp_directive.specs.Results.{◌>>=◌}
use Rattle.mp_directive.specs.Directives.{Condition}
use Rattle.mp_directive.specs.Tree as t'
use Rattle.mp_directive.specs.Shown.{nodes_of}
use Rattle.mp_directive.specs.Groups.{groups}
use Rattle.mp_macro.specs.States.{State, Outcome, counted, named, holds, elements, turn_begun}
use Rattle.mp_macro.specs.Expansion.{Refusal, Macro, Including, Step, at, turns, restored, after_node, after_nodes, after_branches, tree, after_file, contents, include}
use Rattle.mp_macro.specs.Says.{state_of, Placed, Refuses, SaysHere, Told, Says}
use Rattle.mp_macro.specs.declared.fault.Stop.{Stop}
use Rattle.mp_macro.specs.declared.fault.Stop.TheVariants as s
use Rattle.mp_macro.specs.declared.state.State as c

rose-earlier : (a b n m : ℕ) → a ≤ b → min (b + 1) m ≤ n → min (a + 1) m ≤ n
rose-earlier a b n m h r = omega arith

pub later-refl : (a : Outside) → Later a a
later-refl a = record { listing = refl; faults = omega arith; absents = omega arith }

pub later-join : {a b d : Outside} → Later a b → Later b d → Later a d
later-join p q = record { listing = q.listing ∙ p.listing; faults = omega (arith, p.faults, q.faults); absents = omega (arith, p.absents, q.absents) }

pub later-same : (a b : Outside) → b ≡ a → Later a b
later-same a b e = subst (Later a) (sym e) (later-refl a)

-- from an earlier state of the files on, where the same is meant
pub says-after : {X : Type 0} (new : X) (a b c : Outside) (first gives : Listing → Result X Refusal) (r : Result (Unit {0}) Stop) → Later a b → ((l : Listing) → a.listing ≡ Some l → gives l ≡ first l) → Says new b c first r → Says new a c gives r
says-after new a b c first gives (Ok u) later same h = λ l told. same l told ∙ h l (later.listing ∙ told)
says-after new a b c first gives (Err (s.Macro kind file line)) later same h = λ l told. same l told ∙ h l (later.listing ∙ told)
says-after new a b c first gives (Err (s.Absent name)) later same h = (rose-earlier a.absents b.absents c.absents _ later.absents h.0, λ l told. same l told ∙ h.1 l (later.listing ∙ told))
says-after new a b c first gives (Err (s.ReadFault count)) later same h = (rose-earlier a.faults b.faults c.faults _ later.faults h.0, h.1)
says-after new a b c first gives (Err s.NoMemory) later same h = tt

-- a step that stops ends what follows it
pub stops : {X Y : Type 0} (m : X) (n : Y) (b c : Outside) (first : Listing → Result X Refusal) (next : Listing → X → Result Y Refusal) (e : Stop) → Says m b c first (Err e) → Says n b c (λ l. first l >>= next l) (Err e)
stops m n b c first next (s.Macro kind file line) h = λ l told. ap (λ r. r >>= next l) (h l told)
stops m n b c first next (s.Absent name) h = (h.0, λ l told. ap (λ r. r >>= next l) (h.1 l told))
stops m n b c first next (s.ReadFault count) h = h
stops m n b c first next s.NoMemory h = tt

-- a refusal at a line
pub refused : {X Y : Type 0} (answer : Result X MacroFault) (meant : Result Y MacroKind) (n : Y) (b c : Outside) (file : List ℕ) (line : ℕ) (e : Stop) → ((kind : MacroKind) → answer ≡ Err (f.Refused kind) → meant ≡ Err kind) → Placed answer file line (Err e) → Says n b c (λ l. at file line meant) (Err e)
refused answer meant n b c file line (s.Macro kind g m) same p = λ l told.
    ap (at file line) (same kind p.0) ∙ ap (λ x. Err (Macro kind x line)) (sym p.1) ∙ ap (λ x. Err (Macro kind g x)) (sym p.2)
refused answer meant n b c file line (s.Absent name) same p = absurd p
refused answer meant n b c file line (s.ReadFault count) same p = absurd p
refused answer meant n b c file line s.NoMemory same p = tt

pub gives-refused : {X Y : Type 0} (view : Y → X) (answer : Result Y MacroFault) (meant : Result X MacroKind) → Gives view told answer meant → (kind : MacroKind) → answer ≡ Err (f.Refused kind) → meant ≡ Err kind
gives-refused view answer meant h kind e = subst (λ a. Gives view told a meant) e h

pub gives-ok : {X Y : Type 0} (view : Y → X) (answer : Result Y MacroFault) (meant : Result X MacroKind) (y : Y) → Gives view told answer meant → answer ≡ Ok y → meant ≡ Ok (view y)
gives-ok view answer meant y h e = subst (λ a. Gives view told a meant) e h

-- a refusal of a file's own
pub own : {X Y : Type 0} (view : Y → X) (meant : Result X Refusal) (n : X) (b c : Outside) (e : Stop) → SaysHere view (Err e) meant → Says n b c (λ l. meant) (Err e)
own view meant n b c (s.Macro kind file line) h = λ l told. h
own view meant n b c (s.Absent name) h = absurd h
own view meant n b c (s.ReadFault count) h = absurd h
own view meant n b c s.NoMemory h = tt

module _ (including : Including) (file : List ℕ) where
  pub branch-taken : (line : ℕ) (condition : Condition) (body : t'.Nodes) (more bs : t'.Branches) (s : State) → bs ≡ t'.Branch line condition body more → holds s.names condition ≡ Ok true → after_branches including file bs s ≡ after_nodes including file body s
  branch-taken line condition body more bs s is h =
      ap (λ b. after_branches including file b s) is
      ∙ ap (λ r. at file line r >>= λ b. if b then after_nodes including file body s else after_branches including file more s) h

  pub loop-is : (line : ℕ) (name array : List ℕ) (body : t'.Nodes) (vs : List Value) (s : State) → elements s.names array ≡ Ok vs → after_node including file (t'.Loop line name array body) s ≡ (turns (after_nodes including file body) file line name vs s >>= restored name s)
  loop-is line name array body vs s e = ap (λ r. at file line r >>= λ vs. turns (after_nodes including file body) file line name vs s >>= restored name s) e

-- an include where no more files may be open
pub deep : (l : Listing) (room : ℕ) (file : List ℕ) (line : ℕ) (name : List ℕ) (s : State) → room ≡ 0 → include l room file line name s ≡ Err (Macro k.IncludeDeep file line)
unfolding include
deep l zero file line name s e = refl
deep l (suc room) file line name s e = cc

pub deep-says : (n z : State) (b c : Outside) (room : ℕ) (file : List ℕ) (line : ℕ) (name : List ℕ) (e : Stop) → room ≡ 0 → Refuses k.IncludeDeep file line e → Says n b c (λ l. include l room file line name z) (Err e)
deep-says n z b c room file line name (s.Macro kind g m) none h = λ l told.
    deep l room file line name z none ∙ ap (λ x. Err (Macro x file line)) (sym h.0) ∙ ap (λ x. Err (Macro kind x line)) (sym h.1) ∙ ap (λ x. Err (Macro kind g x)) (sym h.2)
deep-says n z b c room file line name (s.Absent x) none h = absurd h
deep-says n z b c room file line name (s.ReadFault x) none h = absurd h
deep-says n z b c room file line name s.NoMemory none h = tt

-- an include where one more file may be open
pub include-is : (l : Listing) (room : ℕ) (file : List ℕ) (line : ℕ) (name : List ℕ) (s : State) → (room ≡ 0 → ⊥) → include l room file line name s ≡ (at file line (counted s) >>= λ t. contents (lookup l name) name file line >>= λ bytes. after_file (include l (room - 1)) name bytes t)
unfolding include
include-is l zero file line name s some = absurd (some refl)
include-is l (suc room) file line name s some =
    ap (λ r. at file line (counted s) >>= λ t. contents (lookup l name) name file line >>= λ bytes. after_file (include l r) name bytes t) (omega arith)

-- what an include does with the bytes
abbrev pub opened : Listing → ℕ → List ℕ → State → List ℕ → Step
opened l room name t bytes = after_file (include l (room - 1)) name bytes t

pub count-stops : (a : Outside) (room : ℕ) (file : List ℕ) (line : ℕ) (name : List ℕ) (z : State) (new : c.State) (answer : Result (Unit {0}) MacroFault) (e : Stop) → (room ≡ 0 → ⊥) → Gives (λ u. state_of new) told answer (counted z) → Placed answer file line (Err e) → Says z a a (λ l. include l room file line name z) (Err e)
count-stops a room file line name z new answer e some made placed =
    let next : Listing → State → Step = λ l t. contents (lookup l name) name file line >>= opened l room name t in
    let first : Listing → Step = λ l. at file line (counted z) in
    says-after z a a a (λ l. first l >>= next l) (λ l. include l room file line name z) (Err e) (later-refl a) (λ l told. include-is l room file line name z some)
    (stops z z a a first next e (refused answer (counted z) z a a file line e (gives-refused (λ u. state_of new) answer (counted z) made) placed))

pub include-counted : (l : Listing) (room : ℕ) (file : List ℕ) (line : ℕ) (name : List ℕ) (z t : State) → (room ≡ 0 → ⊥) → counted z ≡ Ok t → include l room file line name z ≡ (contents (lookup l name) name file line >>= opened l room name t)
include-counted l room file line name z t some made =
    include-is l room file line name z some ∙ ap (λ r. at file line r >>= λ t. contents (lookup l name) name file line >>= opened l room name t) made

pub fetch-stops : (a b : Outside) (room : ℕ) (file : List ℕ) (line : ℕ) (name : List ℕ) (z t : State) (into : List ℕ) (e : Stop) → (room ≡ 0 → ⊥) → counted z ≡ Ok t → Says into a b (λ l. contents (lookup l name) name file line) (Err e) → Says z a b (λ l. include l room file line name z) (Err e)
fetch-stops a b room file line name z t into e some made says =
    let first : Listing → Result (List ℕ) Refusal = λ l. contents (lookup l name) name file line in
    let next : Listing → List ℕ → Step = λ l. opened l room name t in
    says-after z a a b (λ l. first l >>= next l) (λ l. include l room file line name z) (Err e) (later-refl a) (λ l told. include-counted l room file line name z t some made) (stops into z a b first next e says)

pub tree-stops : (a b : Outside) (room : ℕ) (file : List ℕ) (line : ℕ) (name : List ℕ) (z t : State) (bytes : List ℕ) (e : Stop) → (room ≡ 0 → ⊥) → counted z ≡ Ok t → Told a (λ l. contents (lookup l name) name file line) (Ok bytes) → SaysHere nodes_of (Err e) (tree name (groups bytes)) → Says z a b (λ l. include l room file line name z) (Err e)
tree-stops a b room file line name z t bytes e some made got own-fault =
    let first : Listing → Result t'.Nodes Refusal = λ l. tree name (groups bytes) in
    let next : Listing → t'.Nodes → Step = λ l nodes. after_nodes (include l (room - 1)) name nodes t in
    says-after z a a b (λ l. first l >>= next l) (λ l. include l room file line name z) (Err e) (later-refl a) (λ l told. include-counted l room file line name z t some made ∙ ap (λ r. r >>= opened l room name t) (got l told)) (stops t'.Done z a b first next e (own nodes_of (tree name (groups bytes)) t'.Done a b e own-fault))

pub include-goes-on : (a b d : Outside) (room : ℕ) (file : List ℕ) (line : ℕ) (name : List ℕ) (z t new : State) (bytes : List ℕ) (nodes : t'.Nodes) (r : Result (Unit {0}) Stop) → (room ≡ 0 → ⊥) → counted z ≡ Ok t → Told a (λ l. contents (lookup l name) name file line) (Ok bytes) → tree name (groups bytes) ≡ Ok nodes → Later a b → Says new b d (λ l. after_nodes (include l (room - 1)) name nodes t) r → Says new a d (λ l. include l room file line name z) r
include-goes-on a b d room file line name z t new bytes nodes r some made got read later says =
    says-after new a b d (λ l. after_nodes (include l (room - 1)) name nodes t) (λ l. include l room file line name z) r later (λ l told. include-counted l room file line name z t some made ∙ ap (λ x. x >>= opened l room name t) (got l told) ∙ ap (λ x. x >>= λ nodes. after_nodes (include l (room - 1)) name nodes t) read) says

-- one loop: the file, the line, the name, the array's expression and the body
module _ (room : ℕ) (file : List ℕ) (line : ℕ) (name array : List ℕ) (body : t'.Nodes) where
  abbrev pub looped : State → Listing → Step
  looped z l = after_node (include l room) file (t'.Loop line name array body) z

  abbrev pub turned : Listing → List Value → State → Step
  turned l = turns (after_nodes (include l room) file body) file line name

  pub loop-rest : (l : Listing) (vs start rest : List Value) (z st : State) → elements z.names array ≡ Ok vs → start ≡ vs → turned l rest st ≡ turned l start z → looped z l ≡ (turned l rest st >>= restored name z)
  loop-rest l vs start rest z st e same told =
      loop-is (include l room) file line name array body vs z e
      ∙ ap (λ r. r >>= restored name z) (ap (λ x. turned l x z) (sym same) ∙ sym told)

  pub turn-stops : (a b : Outside) (vs start rest more : List Value) (v : Value) (z st : State) (new : c.State) (answer : Result (Unit {0}) MacroFault) (e : Stop) → elements z.names array ≡ Ok vs → start ≡ vs → rest ≡ v ∷ more → Gives (λ u. state_of new) told answer (turn_begun name v st) → Placed answer file line (Err e) → ((l : Listing) → a.listing ≡ Some l → turned l rest st ≡ turned l start z) → Says z a b (looped z) (Err e)
  turn-stops a b vs start rest more v z st new answer e elems same split made placed told =
      let first : Listing → Step = λ l. at file line (turn_begun name v st) in
      let second : Listing → Step = λ l. first l >>= after_nodes (include l room) file body in
      let third : Listing → Step = λ l. second l >>= turned l more in
      says-after z a a b (λ l. third l >>= restored name z) (looped z) (Err e) (later-refl a)
      (λ l t. loop-rest l vs start rest z st elems same (told l t) ∙ ap (λ x. turned l x st >>= restored name z) split)
      (stops z z a b third (λ l. restored name z) e
      (stops z z a b second (λ l. turned l more) e
      (stops z z a b first (λ l. after_nodes (include l room) file body) e
      (refused answer (turn_begun name v st) z a b file line e (gives-refused (λ u. state_of new) answer (turn_begun name v st) made) placed))))

  pub body-stops : (a b d : Outside) (vs start rest more : List Value) (v : Value) (z st s1 new : State) (e : Stop) → elements z.names array ≡ Ok vs → start ≡ vs → rest ≡ v ∷ more → turn_begun name v st ≡ Ok s1 → Later a b → ((l : Listing) → a.listing ≡ Some l → turned l rest st ≡ turned l start z) → Says new b d (λ l. after_nodes (include l room) file body s1) (Err e) → Says z a d (looped z) (Err e)
  body-stops a b d vs start rest more v z st s1 new e elems same split begun later told says =
      let first : Listing → Step = λ l. after_nodes (include l room) file body s1 in
      let second : Listing → Step = λ l. first l >>= turned l more in
      says-after z a b d (λ l. second l >>= restored name z) (looped z) (Err e) later
      (λ l t. loop-rest l vs start rest z st elems same (told l t) ∙ ap (λ x. turned l x st >>= restored name z) split ∙ ap (λ x. ((at file line x >>= after_nodes (include l room) file body) >>= turned l more) >>= restored name z) begun)
      (stops z z b d second (λ l. restored name z) e
      (stops new z b d first (λ l. turned l more) e says))

  pub loop-ends : (a : Outside) (vs start rest : List Value) (z st new : State) → elements z.names array ≡ Ok vs → start ≡ vs → length rest ≡ 0 → ((l : Listing) → a.listing ≡ Some l → turned l rest st ≡ turned l start z) → new ≡ named name (z.names name) st → Told a (looped z) (Ok new)
  loop-ends a vs start [] z st new elems same none told is = λ l t. loop-rest l vs start [] z st elems same (told l t) ∙ ap (λ x. Ok x) (sym is)
  loop-ends a vs start (x ∷ rest) z st new elems same none told is = cc
