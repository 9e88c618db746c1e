-- What the first fault of a file's lines means.
use Rattle.std.proofs.Common.{◌≡◌, ◌⊎◌, ℕ, suc, ◌+◌, ◌<◌, ◌≤◌, List, [], ◌∷◌, ◌++◌, length, take, drop, length-append, length-take-le, take-append-drop, Result, Ok, Err, Some, Bool, true, false, nat_lt, inl, inr, refl, sym, ap, ◌∙◌, subst, append_assoc, arith}
use Rattle.mp_base.specs.declared.kinds.MacroKind.{MacroKind}
use Rattle.mp_base.specs.declared.kinds.MacroKind.TheVariants.{Unbalanced, NestDeep}
use Rattle.mp_directive.specs.Results.{◌>>=◌}
use Rattle.mp_directive.specs.Directives as d
use Rattle.mp_directive.specs.Tree.{Nodes, NoBranch}
use Rattle.mp_directive.specs.Groups.{Group, OpenChoice, OpenLoop, Reading, Fault, opened, further, choice_ended, loop_ended, after_line, is_otherwise, opener, outermost, whole, groups, nothing_read}
use Rattle.mp_directive.specs.Structure.{contents, NodesStand, HasTree, Begins, kind_of, StopsAt, LacksEnd}
use Rattle.mp_directive.proofs.Contents.{read_from, read-after, read-line, read-fault, groups-contents, FirstFault, first-fault}
use Rattle.mp_directive.proofs.OnlyTree.{tree-only}
use Rattle.mp_directive.proofs.Standing.{Holds, stands, read-begins}

-- the first lines
take-front : (front rest : List d.Content) → take (length front) (front ++ rest) ≡ front
take-front [] rest = refl
take-front (c ∷ front) rest = ap (λ x. c ∷ x) (take-front front rest)

-- and one more
take-one-more : (front : List d.Content) (c : d.Content) (rest : List d.Content) → take (suc (length front)) (front ++ c ∷ rest) ≡ front ++ c ∷ []
take-one-more [] c rest = refl
take-one-more (b ∷ front) c rest = ap (λ x. b ∷ x) (take-one-more front c rest)

-- a line that is refused has its kind of fault
abbrev pub Blames : d.Content → Result Reading MacroKind → Type 0
Blames c (Ok r) = Unit {0}
Blames c (Err kind) = kind_of c ≡ Some kind

opens-blames : (g : Group) (gs : List Group) (c : d.Content) → kind_of c ≡ Some NestDeep → Blames c (opened g gs)
opens-blames g gs c e = by (nat_lt (length gs) 100) refl
  where
    by : (b : Bool) → nat_lt (length gs) 100 ≡ b → Blames c (opened g gs)
    by true t = rw t tt
    by false t = rw t e

further-blames : (line : ℕ) (c : d.Condition) (ns : Nodes) (gs : List Group) → Blames (d.Further c) (further line c ns gs)
further-blames line c ns [] = refl
further-blames line c ns (OpenLoop outer opener name array ∷ gs) = refl
further-blames line c ns (OpenChoice outer opener finished l was ∷ gs) = by (is_otherwise was) refl
  where
    by : (b : Bool) → is_otherwise was ≡ b → Blames (d.Further c) (further line c ns (OpenChoice outer opener finished l was ∷ gs))
    by true t = rw t refl
    by false t = rw t tt

choice-blames : (ns : Nodes) (gs : List Group) → Blames d.EndIf (choice_ended ns gs)
choice-blames ns [] = refl
choice-blames ns (OpenLoop outer opener name array ∷ gs) = refl
choice-blames ns (OpenChoice outer opener finished l was ∷ gs) = tt

loop-blames : (ns : Nodes) (gs : List Group) → Blames d.EndFor (loop_ended ns gs)
loop-blames ns [] = refl
loop-blames ns (OpenLoop outer opener name array ∷ gs) = tt
loop-blames ns (OpenChoice outer opener finished l was ∷ gs) = refl

line-blames : (line : ℕ) (c : d.Content) (r : Reading) → Blames c (after_line line c r)
line-blames line (d.Alone s) r = tt
line-blames line (d.Include e) r = tt
line-blames line (d.If c) r = opens-blames (OpenChoice r.nodes line NoBranch line c) r.groups (d.If c) refl
line-blames line (d.Further c) r = further-blames line c r.nodes r.groups
line-blames line d.EndIf r = choice-blames r.nodes r.groups
line-blames line (d.For name array) r = opens-blames (OpenLoop r.nodes line name array) r.groups (d.For name array) refl
line-blames line d.EndFor r = loop-blames r.nodes r.groups
line-blames line d.IllFormed r = refl

-- no lines that have a tree begin with ones that are refused
refused-ends : (front : List d.Content) (c : d.Content) (r : Reading) (line : ℕ) (kind : MacroKind) → read_from 1 front nothing_read ≡ Ok r → line ≡ 1 + length front → after_line line c r ≡ Err kind → ¬ Begins (front ++ c ∷ [])
refused-ends front c r line kind told place refused b =
    let whole_tree : read_from 1 (front ++ c ∷ b.0) nothing_read ≡ Ok (record { groups = []; nodes = b.1.0 }) =
    ap (λ x. read_from 1 x nothing_read) (sym (append_assoc front (c ∷ []) b.0)) ∙ tree-only b.1.1 in
    let fault : read_from 1 (front ++ c ∷ b.0) nothing_read ≡ Err (record { kind = kind; line = line }) =
    read-after 1 front (c ∷ b.0) nothing_read r told ∙ ap (λ n. read_from n (c ∷ b.0) r) (sym place) ∙ read-fault line c b.0 r kind refused in
    cc

-- the first line that is refused is the first with which no tree goes on
stops-at : (cs : List d.Content) (f : Fault) → FirstFault 1 cs nothing_read f → StopsAt cs f
stops-at cs f k =
    let front : take (length k.front) cs ≡ k.front = ap (take (length k.front)) k.splits ∙ take-front k.front (k.content ∷ k.rest) in
    record {
      before = length k.front;
      content = k.content;
      rest = k.rest;
      line = omega (arith, k.place);
      splits = k.splits ∙ ap (λ x. x ++ k.content ∷ k.rest) (sym front);
      goes_on = subst Begins (sym front) (read-begins k.front k.reading k.before);
      stops = λ b. refused-ends k.front k.content k.reading f.line f.kind k.before k.place k.refused (subst Begins (ap (take (suc (length k.front))) k.splits ∙ take-one-more k.front k.content k.rest) b);
      kind = subst (Blames k.content) k.refused (line-blames f.line k.content k.reading);
    }

-- these groups were opened in this line or later
abbrev pub OpenedFrom : ℕ → List Group → Type 0
OpenedFrom least [] = Unit {0}
OpenedFrom least (g ∷ gs) = (least ≤ opener g) × OpenedFrom least gs

abbrev pub StillFrom : ℕ → Result Reading MacroKind → Type 0
StillFrom least (Ok r) = OpenedFrom least r.groups
StillFrom least (Err kind) = Unit {0}

opens-from : (least : ℕ) (g : Group) (gs : List Group) → least ≤ opener g → OpenedFrom least gs → StillFrom least (opened g gs)
opens-from least g gs late h = by (nat_lt (length gs) 100) refl
  where
    by : (b : Bool) → nat_lt (length gs) 100 ≡ b → StillFrom least (opened g gs)
    by true t = rw t (late, h)
    by false t = rw t tt

further-from : (least line : ℕ) (c : d.Condition) (ns : Nodes) (gs : List Group) → OpenedFrom least gs → StillFrom least (further line c ns gs)
further-from least line c ns [] h = tt
further-from least line c ns (OpenLoop outer opener name array ∷ gs) h = tt
further-from least line c ns (OpenChoice outer opener finished l was ∷ gs) h = by (is_otherwise was) refl
  where
    by : (b : Bool) → is_otherwise was ≡ b → StillFrom least (further line c ns (OpenChoice outer opener finished l was ∷ gs))
    by true t = rw t tt
    by false t = rw t h

choice-from : (least : ℕ) (ns : Nodes) (gs : List Group) → OpenedFrom least gs → StillFrom least (choice_ended ns gs)
choice-from least ns [] h = tt
choice-from least ns (OpenLoop outer opener name array ∷ gs) h = tt
choice-from least ns (OpenChoice outer opener finished l was ∷ gs) h = h.1

loop-from : (least : ℕ) (ns : Nodes) (gs : List Group) → OpenedFrom least gs → StillFrom least (loop_ended ns gs)
loop-from least ns [] h = tt
loop-from least ns (OpenLoop outer opener name array ∷ gs) h = h.1
loop-from least ns (OpenChoice outer opener finished l was ∷ gs) h = tt

line-from : (least line : ℕ) (c : d.Content) (r : Reading) → least ≤ line → OpenedFrom least r.groups → StillFrom least (after_line line c r)
line-from least line (d.Alone s) r late h = h
line-from least line (d.Include e) r late h = h
line-from least line (d.If c) r late h = opens-from least (OpenChoice r.nodes line NoBranch line c) r.groups late h
line-from least line (d.Further c) r late h = further-from least line c r.nodes r.groups h
line-from least line d.EndIf r late h = choice-from least r.nodes r.groups h
line-from least line (d.For name array) r late h = opens-from least (OpenLoop r.nodes line name array) r.groups late h
line-from least line d.EndFor r late h = loop-from least r.nodes r.groups h
line-from least line d.IllFormed r late h = tt

-- a group that is open after lines was open before them or opened in one of them
lines-from : (least line : ℕ) (cs : List d.Content) (r s : Reading) → least ≤ line → OpenedFrom least r.groups → read_from line cs r ≡ Ok s → OpenedFrom least s.groups
lines-from least line [] r s late h told = let same : r ≡ s = cc in subst (λ (x : Reading). OpenedFrom least x.groups) same h
lines-from least line (c ∷ cs) r s late h told = by (after_line line c r) refl (line-from least line c r late h) (λ q. lines-from least (line + 1) cs q s (omega arith))
  where
    by : (x : Result Reading MacroKind) → after_line line c r ≡ x → StillFrom least (after_line line c r) → ((q : Reading) → OpenedFrom least q.groups → read_from (line + 1) cs q ≡ Ok s → OpenedFrom least s.groups) → OpenedFrom least s.groups
    by (Ok q) is left further = further q (subst (StillFrom least) is left) (sym (read-line line c cs r q is) ∙ told)
    by (Err kind) is left further = let no : ◌≡◌ {A = Result Reading Fault} (Err (record { kind = kind; line = line })) (Ok s) = sym (read-fault line c cs r kind is) ∙ told in cc

-- so was the outermost of them
outermost-from : (least : ℕ) (g : Group) (gs : List Group) → OpenedFrom least (g ∷ gs) → least ≤ opener (outermost g gs)
outermost-from least g [] h = h.0
outermost-from least g (k ∷ gs) h = outermost-from least k gs h.1

-- the lines before the outermost open group
pub record Outermost (cs : List d.Content) (place : ℕ) : Type 0 where
  pub front : List d.Content
  pub rest : List d.Content
  pub splits : cs ≡ front ++ rest
  pub begun : 0 < length rest
  pub place_is : place ≡ 1 + length front
  pub tree : HasTree front

-- what stands before the innermost group
pub record Before (gs : List Group) (room place : ℕ) (cs : List d.Content) : Type 0 where
  pub front : List d.Content
  pub rest : List d.Content
  pub splits : cs ≡ front ++ rest
  pub begun : 0 < length rest
  pub place_is : place ≡ 1 + length front
  pub body : Nodes
  pub holds : Holds gs (suc room) body front

before : (g : Group) (gs : List Group) (room : ℕ) (ns : Nodes) (cs : List d.Content) → Holds (g ∷ gs) room ns cs → Before gs room (opener g) cs
before (OpenLoop outer opener name array) gs room ns cs h =
    record { front = h.front; rest = d.For name array ∷ h.inner; splits = h.splits; begun = omega arith; place_is = h.place; body = outer; holds = h.before }
before (OpenChoice outer opener finished l c) gs room ns cs h =
    record { front = h.front; rest = h.head ++ h.inner; splits = h.splits; begun = omega (arith, h.begun, length-append h.head h.inner); place_is = h.place; body = outer; holds = h.before }

outermost-stands : (g : Group) (gs : List Group) (room : ℕ) (ns : Nodes) (cs : List d.Content) → suc (length gs) + room ≡ 100 → Holds (g ∷ gs) room ns cs → Outermost cs (opener (outermost g gs))
outermost-stands g [] room ns cs few h =
    let b = before g [] room ns cs h in
    let all : suc room ≡ 100 = omega arith in
    record { front = b.front; rest = b.rest; splits = b.splits; begun = b.begun; place_is = b.place_is; tree = (b.body, subst (λ n. NodesStand n 1 b.front b.body) all b.holds) }
outermost-stands g (k ∷ gs) room ns cs few h =
    let b = before g (k ∷ gs) room ns cs h in
    let o = outermost-stands k gs (suc room) b.body b.front (omega arith) b.holds in
    record {
      front = o.front;
      rest = o.rest ++ b.rest;
      splits = b.splits ∙ ap (λ x. x ++ b.rest) o.splits ∙ append_assoc o.front o.rest b.rest;
      begun = omega (arith, o.begun, length-append o.rest b.rest);
      place_is = o.place_is;
      tree = o.tree;
    }

-- a group that is open at the end has been open since its opener: only the lines before the outermost have a tree
lacks-end : (cs : List d.Content) (g : Group) (gs : List Group) (ns : Nodes) → read_from 1 cs nothing_read ≡ Ok (record { groups = g ∷ gs; nodes = ns }) → LacksEnd cs (record { kind = Unbalanced; line = opener (outermost g gs) })
lacks-end cs g gs ns told =
    let s = stands cs (record { groups = g ∷ gs; nodes = ns }) told in
    let o = outermost-stands g gs s.room ns cs s.few s.holds in
    record {
      before = length o.front;
      within = omega (arith, ap length o.splits, length-append o.front o.rest, o.begun);
      line = omega (arith, o.place_is);
      kind = refl;
      goes_on = read-begins cs (record { groups = g ∷ gs; nodes = ns }) told;
      complete = subst HasTree (sym (ap (take (length o.front)) o.splits ∙ take-front o.front o.rest)) o.tree;
      longest = λ n above within t. absurd (omega (arith, above, o.place_is, later n within t));
    }
  where
    later : (n : ℕ) → n ≤ length cs → HasTree (take n cs) → suc n ≤ opener (outermost g gs)
    later n within t =
        let long : length (take n cs) ≡ n = length-take-le n cs within in
        let rest : read_from (1 + length (take n cs)) (drop n cs) (record { groups = []; nodes = t.0 }) ≡ Ok (record { groups = g ∷ gs; nodes = ns }) =
        sym (read-after 1 (take n cs) (drop n cs) nothing_read (record { groups = []; nodes = t.0 }) (tree-only t.1)) ∙ ap (λ x. read_from 1 x nothing_read) (take-append-drop n cs) ∙ told in
        outermost-from (suc n) g gs (lines-from (suc n) (1 + length (take n cs)) (drop n cs) _ _ (omega (arith, long)) tt rest)

whole-lacks : (cs : List d.Content) (gs : List Group) (ns : Nodes) (f : Fault) → read_from 1 cs nothing_read ≡ Ok (record { groups = gs; nodes = ns }) → whole (record { groups = gs; nodes = ns }) ≡ Err f → LacksEnd cs f
whole-lacks cs [] ns f told e = cc
whole-lacks cs (g ∷ gs) ns f told e = let same : record { kind = Unbalanced; line = opener (outermost g gs) } ≡ f = cc in subst (LacksEnd cs) same (lacks-end cs g gs ns told)

-- the fault of a file is at a line with which no tree goes on, or an end is missing
pub fault-is : (bytes : List ℕ) (f : Fault) → groups bytes ≡ Err f → StopsAt (contents bytes) f ⊎ LacksEnd (contents bytes) f
fault-is bytes f e = by (read_from 1 cs nothing_read) refl
  where
    cs : List d.Content
    cs = contents bytes

    told : (read_from 1 cs nothing_read >>= whole) ≡ Err f
    told = sym (groups-contents bytes) ∙ e

    by : (x : Result Reading Fault) → read_from 1 cs nothing_read ≡ x → StopsAt cs f ⊎ LacksEnd cs f
    by (Ok r) is = inr (whole-lacks cs r.groups r.nodes f is (sym (ap (λ x. x >>= whole) is) ∙ told))
    by (Err g) is =
        let same : Err g ≡ Err f = sym (ap (λ x. x >>= whole) is) ∙ told in
        inl (stops-at cs f (first-fault 1 cs nothing_read f (is ∙ cc)))
