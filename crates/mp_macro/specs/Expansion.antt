-- The expansion of a file (Dynare manual, "Macro processing language"; scope, order of refusals and limits are modpath's
-- own).
use Rattle.std.specs.Prelude.{ℕ, zero, suc, List, [], ◌∷◌, length, take, nat_le, if◌then◌else◌, Option, Some, None, Result, Ok, Err}
use Rattle.mp_base.specs.declared.kinds.MacroKind.{MacroKind}
use Rattle.mp_base.specs.declared.kinds.MacroKind.TheVariants.{FileLong, IncludeDeep}
use Rattle.mp_outside.specs.Outside.{Listing, lookup}
use Rattle.mp_mvalue.specs.declared.value.Value.{Value}
use Rattle.mp_mvalue.specs.declared.defines.Define.{Define}
use Rattle.mp_directive.specs.Results.{◌>>=◌}
use Rattle.mp_directive.specs.Tree.{Node, Simple, Included, Choice, Loop, Nodes, Done, Then, Branches, NoBranch, Branch}
use Rattle.mp_directive.specs.Groups.{Fault, groups}
use Rattle.mp_mvalue.specs.Environments.{Names}
use Rattle.mp_macro.specs.States.{State, with_name, named, counted, after_statement, holds, elements, turn_begun, file_name}

-- why there is no text: a line of a file is refused, or a file is absent
pub data Refusal : Type 0 where
  Macro : MacroKind → (file : List ℕ) → (line : ℕ) → Refusal
  Absent : (name : List ℕ) → Refusal

-- what a part of a file makes of a state, or why it is refused
abbrev pub Step : Type 0
Step = Result State Refusal

-- a refusal at this line of this file
abbrev pub at : {X : Type 0} → List ℕ → ℕ → Result X MacroKind → Result X Refusal
at file line (Ok x) = Ok x
at file line (Err kind) = Err (Macro kind file line)

-- the turns of a loop: each is counted as it begins, and the name has the element's value in it
abbrev pub turns : (State → Step) → List ℕ → ℕ → List ℕ → List Value → State → Step
turns body file line name [] s = Ok s
turns body file line name (v ∷ vs) s = at file line (turn_begun name v s) >>= body >>= turns body file line name vs

-- the name has the value that it had before the loop, or none
abbrev pub restored : List ℕ → State → State → Step
restored name before after = Ok (named name (before.names name) after)

-- what an include in this file and line makes of a state, by the included file's name
abbrev pub Including : Type 0
Including = List ℕ → ℕ → List ℕ → State → Step

module _ (including : Including) (file : List ℕ) where
  abbrev mutual
    pub after_node : Node → State → Step
    after_node (Simple line statement) s = at file line (after_statement statement s)
    after_node (Included line expr) s = at file line (file_name s.names expr) >>= λ name. including file line name s
    after_node (Choice branches) s = after_branches branches s
    after_node (Loop line name array body) s =
        at file line (elements s.names array) >>= λ vs. turns (after_nodes body) file line name vs s >>= restored name s

    -- nodes in order
    pub after_nodes : Nodes → State → Step
    after_nodes Done s = Ok s
    after_nodes (Then node more) s = after_node node s >>= after_nodes more

    -- the first branch whose condition holds; later ones are not read
    pub after_branches : Branches → State → Step
    after_branches NoBranch s = Ok s
    after_branches (Branch line condition body more) s =
        at file line (holds s.names condition) >>= λ b. if b then after_nodes body s else after_branches more s

-- the tree of a file, or its own fault
abbrev pub tree : List ℕ → Result Nodes Fault → Result Nodes Refusal
tree file (Ok nodes) = Ok nodes
tree file (Err f) = Err (Macro f.kind file f.line)

-- what a file with these bytes makes of a state
abbrev pub after_file : Including → List ℕ → List ℕ → State → Step
after_file including file bytes s = tree file (groups bytes) >>= λ nodes. after_nodes including file nodes s

-- the bytes of a file that is asked for in this line of this file; at most 8,388,608
abbrev pub contents : Option (List ℕ) → List ℕ → List ℕ → ℕ → Result (List ℕ) Refusal
contents None name file line = Err (Absent name)
contents (Some bytes) name file line = if nat_le (length bytes) 8388608 then Ok bytes else Err (Macro FileLong file line)

-- an include, where so many more files may be open
unfoldable pub include : Listing → ℕ → Including
include l zero file line name s = Err (Macro IncludeDeep file line)
include l (suc room) file line name s =
    at file line (counted s) >>= λ t. contents (lookup l name) name file line >>= λ bytes. after_file (include l room) name bytes t

-- the names that are defined outside the files; a later one of the same name stands
abbrev pub defined : Names → List Define → Names
defined names [] = names
defined names (d ∷ ds) = defined (with_name names d.name (Some d.value)) ds

-- nothing is written yet
abbrev pub start : List Define → State
start defines = record { names = defined (λ name. None) defines; turns = 0; text = [] }

-- what the main file of this name, which is told as it is shown, makes of a state; at most 32 files are open
abbrev pub after_main : Listing → (name shown : List ℕ) → State → Step
after_main l name shown s =
    contents (lookup l name) shown shown 0 >>= λ bytes. after_file (include l 31) shown bytes s

-- the text of a file in which all directives are carried out, or the first refusal, which tells 128 bytes of a longer
-- name
abbrev pub expands : Listing → List ℕ → List Define → Result (List ℕ) Refusal
expands l name defines = after_main l name (take 128 name) (start defines) >>= λ s. Ok s.text
