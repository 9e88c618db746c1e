-- Where lines are read, what is read stands in them.
use Rattle.std.proofs.Common.{◌≡◌, ℕ, zero, suc, ◌+◌, ◌<◌, List, [], ◌∷◌, ◌++◌, length, length-append, Result, Ok, Err, Bool, true, false, nat_lt, ltb-true, refl, sym, ap, ◌∙◌, subst, subst₂, append_assoc, append-nil, arith}
use Rattle.mp_base.specs.declared.kinds.MacroKind.{MacroKind}
use Rattle.mp_directive.specs.Results.{◌>>=◌}
use Rattle.mp_directive.specs.Directives as d
use Rattle.mp_directive.specs.Tree.{Node, Simple, Included, Choice, Loop, Nodes, Done, Then, with_node, Branches, NoBranch, Branch, with_branch}
use Rattle.mp_directive.specs.Groups.{Group, OpenChoice, OpenLoop, Reading, Fault, opened, further, choice_ended, loop_ended, after_line, is_otherwise, whole, groups, nothing_read}
use Rattle.mp_directive.specs.Structure.{NodesStand, none, more, NodeStands, by_itself, include, choice, loop, FurtherStand, last, next, contents, Begins}
use Rattle.mp_directive.proofs.Contents.{read_from, read-line, read-fault, groups-contents}
use Rattle.mp_directive.proofs.Joined.{joined_branches, joined-last, joined-branch}

-- these lines begin a choice up to the head of a branch: whatever stands in that branch and after it, a choice stands
abbrev pub BeginsChoice : (room opener : ℕ) → (finished : Branches) → (line : ℕ) → d.Condition → List d.Content → Type 0
BeginsChoice room opener finished line c head =
    (cs ds : List d.Content) (body : Nodes) (rest : Branches) → NodesStand room (line + 1) cs body → FurtherStand room (line + 1 + length cs) c ds rest → NodeStands (suc room) opener (head ++ (cs ++ (ds ++ d.EndIf ∷ []))) (Choice (joined_branches finished (Branch line c body rest)))

-- lines that end in the body of a loop, where these say what stands before the loop
pub record InLoop (Before : List d.Content → Type 0) (room opener : ℕ) (name array : List ℕ) (body : Nodes) (cs : List d.Content) : Type 0 where
  pub front : List d.Content
  pub inner : List d.Content
  pub splits : cs ≡ front ++ (d.For name array ∷ inner)
  pub place : opener ≡ 1 + length front
  pub before : Before front
  pub stands : NodesStand room (opener + 1) inner body

-- lines that end in a branch of a choice
pub record InChoice (Before : List d.Content → Type 0) (room opener : ℕ) (finished : Branches) (line : ℕ) (c : d.Condition) (body : Nodes) (cs : List d.Content) : Type 0 where
  pub front : List d.Content
  pub head : List d.Content
  pub inner : List d.Content
  pub splits : cs ≡ front ++ (head ++ inner)
  pub place : opener ≡ 1 + length front
  pub begun : 0 < length head
  pub branch_place : line + 1 ≡ opener + length head
  pub before : Before front
  pub begins : BeginsChoice room opener finished line c head
  pub stands : NodesStand room (line + 1) inner body

-- what is open and what was read in its body stand in these lines; so many more groups may be open
abbrev pub Holds : List Group → (room : ℕ) → Nodes → List d.Content → Type 0
Holds [] room body cs = NodesStand room 1 cs body
Holds (OpenLoop outer opener name array ∷ gs) room body cs = InLoop (Holds gs (suc room) outer) room opener name array body cs
Holds (OpenChoice outer opener finished line c ∷ gs) room body cs = InChoice (Holds gs (suc room) outer) room opener finished line c body cs

-- the same with at most 100 groups open
pub record Standing (r : Reading) (cs : List d.Content) : Type 0 where
  pub room : ℕ
  pub few : length r.groups + room ≡ 100
  pub holds : Holds r.groups room r.nodes cs

-- one node more stands after others
nodes-node : {room line : ℕ} {cs : List d.Content} {ns : Nodes} → NodesStand room line cs ns → (place : ℕ) (ds : List d.Content) (n : Node) → place ≡ line + length cs → NodeStands room place ds n → NodesStand room line (cs ++ ds) (with_node ns n)
nodes-node (none {room = room} {line = line}) place ds n e k =
    let here : place ≡ line = omega arith in
    subst (λ x. NodesStand room line x (Then n Done)) (append-nil ds) (more (subst (λ p. NodeStands room p ds n) here k) none)
nodes-node (more {room = room} {line = line} {cs = cs} {ds = es} {n = m} {ns = ns} h hs) place ds n e k =
    subst (λ x. NodesStand room line x (Then m (with_node ns n))) (sym (append_assoc cs es ds))
    (more h (nodes-node hs place ds n (omega (arith, length-append cs es)) k))

-- the same in the innermost open group
holds-node : (gs : List Group) (room : ℕ) (ns : Nodes) (cs ds : List d.Content) (place : ℕ) (n : Node) → place ≡ 1 + length cs → Holds gs room ns cs → NodeStands room place ds n → Holds gs room (with_node ns n) (cs ++ ds)
holds-node [] room ns cs ds place n e h k = nodes-node h place ds n e k
holds-node (OpenLoop outer opener name array ∷ gs) room ns cs ds place n e h k =
    record {
      front = h.front;
      inner = h.inner ++ ds;
      splits = ap (λ x. x ++ ds) h.splits ∙ append_assoc h.front (d.For name array ∷ h.inner) ds;
      place = h.place;
      before = h.before;
      stands = nodes-node h.stands place ds n (omega (arith, ap length h.splits, length-append h.front (d.For name array ∷ h.inner), h.place)) k;
    }
holds-node (OpenChoice outer opener finished line c ∷ gs) room ns cs ds place n e h k =
    record {
      front = h.front;
      head = h.head;
      inner = h.inner ++ ds;
      splits = ap (λ x. x ++ ds) h.splits ∙ append_assoc h.front (h.head ++ h.inner) ds ∙ ap (λ x. h.front ++ x) (append_assoc h.head h.inner ds);
      place = h.place;
      begun = h.begun;
      branch_place = h.branch_place;
      before = h.before;
      begins = h.begins;
      stands = nodes-node h.stands place ds n (omega (arith, ap length h.splits, length-append h.front (h.head ++ h.inner), length-append h.head h.inner, h.place, h.branch_place)) k;
    }

-- what a line more leaves
abbrev pub Leaves : List d.Content → Result Reading MacroKind → Type 0
Leaves cs (Ok r) = Standing r cs
Leaves cs (Err kind) = Unit {0}

node-leaves : (r : Reading) (cs : List d.Content) (line : ℕ) (c : d.Content) (n : Node) → line ≡ 1 + length cs → Standing r cs → ((room : ℕ) → NodeStands room line (c ∷ []) n) → Standing (record { groups = r.groups; nodes = with_node r.nodes n }) (cs ++ c ∷ [])
node-leaves r cs line c n e s stands =
    record { room = s.room; few = s.few; holds = holds-node r.groups s.room r.nodes cs (c ∷ []) line n e s.holds (stands s.room) }

-- a group that opens takes one of the room
opens-leaves : (r : Reading) (cs : List d.Content) (c : d.Content) (g : Group) → Standing r cs → ((room : ℕ) → Holds r.groups (suc room) r.nodes cs → Holds (g ∷ r.groups) room Done (cs ++ c ∷ [])) → Leaves (cs ++ c ∷ []) (opened g r.groups)
opens-leaves r cs c g s makes = by (nat_lt (length r.groups) 100) refl s.room s.few s.holds
  where
    by : (b : Bool) → nat_lt (length r.groups) 100 ≡ b → (room : ℕ) → length r.groups + room ≡ 100 → Holds r.groups room r.nodes cs → Leaves (cs ++ c ∷ []) (opened g r.groups)
    by true t zero few h = absurd (omega (arith, ltb-true (length r.groups) 100 t))
    by true t (suc room) few h = rw t (record { room = room; few = omega arith; holds = makes room h })
    by false t room few h = rw t tt

choice-opens : (r : Reading) (cs : List d.Content) (line : ℕ) (c : d.Condition) → line ≡ 1 + length cs → Standing r cs → Leaves (cs ++ d.If c ∷ []) (opened (OpenChoice r.nodes line NoBranch line c) r.groups)
choice-opens r cs line c e s =
    opens-leaves r cs (d.If c) (OpenChoice r.nodes line NoBranch line c) s (λ room h.
    record { front = cs; head = d.If c ∷ []; inner = []; splits = refl; place = e; begun = omega arith; branch_place = omega arith; before = h; begins = λ cs ds body rest stands further. choice stands further; stands = none })

loop-opens : (r : Reading) (cs : List d.Content) (line : ℕ) (name array : List ℕ) → line ≡ 1 + length cs → Standing r cs → Leaves (cs ++ d.For name array ∷ []) (opened (OpenLoop r.nodes line name array) r.groups)
loop-opens r cs line name array e s =
    opens-leaves r cs (d.For name array) (OpenLoop r.nodes line name array) s (λ room h.
    record { front = cs; inner = []; splits = refl; place = e; before = h; stands = none })

-- the end of a loop
loop-leaves : (cs : List d.Content) (line : ℕ) (ns : Nodes) (gs : List Group) → line ≡ 1 + length cs → Standing (record { groups = gs; nodes = ns }) cs → Leaves (cs ++ d.EndFor ∷ []) (loop_ended ns gs)
loop-leaves cs line ns [] e s = tt
loop-leaves cs line ns (OpenChoice outer opener finished l was ∷ gs) e s = tt
loop-leaves cs line ns (OpenLoop outer opener name array ∷ gs) e s =
    let h = s.holds in
    record {
      room = suc s.room;
      few = omega (arith, s.few);
      holds = subst (Holds gs (suc s.room) (with_node outer (Loop opener name array ns)))
          (sym (append_assoc h.front (d.For name array ∷ h.inner) (d.EndFor ∷ [])) ∙ ap (λ x. x ++ d.EndFor ∷ []) (sym h.splits))
          (holds-node gs (suc s.room) outer h.front (d.For name array ∷ (h.inner ++ d.EndFor ∷ [])) opener (Loop opener name array ns) h.place h.before (loop h.stands));
    }

-- the end of a choice
choice-leaves : (cs : List d.Content) (line : ℕ) (ns : Nodes) (gs : List Group) → line ≡ 1 + length cs → Standing (record { groups = gs; nodes = ns }) cs → Leaves (cs ++ d.EndIf ∷ []) (choice_ended ns gs)
choice-leaves cs line ns [] e s = tt
choice-leaves cs line ns (OpenLoop outer opener name array ∷ gs) e s = tt
choice-leaves cs line ns (OpenChoice outer opener finished l was ∷ gs) e s =
    let h = s.holds in
    record {
      room = suc s.room;
      few = omega (arith, s.few);
      holds = subst (λ bs. Holds gs (suc s.room) (with_node outer (Choice bs)) (cs ++ d.EndIf ∷ [])) (joined-last finished l was ns)
          (subst (Holds gs (suc s.room) (with_node outer (Choice (joined_branches finished (Branch l was ns NoBranch)))))
          (grouped h.front h.head h.inner ∙ ap (λ x. x ++ d.EndIf ∷ []) (sym h.splits))
          (holds-node gs (suc s.room) outer h.front (h.head ++ (h.inner ++ d.EndIf ∷ [])) opener _ h.place h.before (h.begins h.inner [] ns NoBranch h.stands last)));
    }
  where
    grouped : (a b c : List d.Content) → a ++ (b ++ (c ++ d.EndIf ∷ [])) ≡ (a ++ (b ++ c)) ++ d.EndIf ∷ []
    grouped a b c = simp append_assoc

-- a further branch
further-leaves : (cs : List d.Content) (line : ℕ) (c : d.Condition) (ns : Nodes) (gs : List Group) → line ≡ 1 + length cs → Standing (record { groups = gs; nodes = ns }) cs → Leaves (cs ++ d.Further c ∷ []) (further line c ns gs)
further-leaves cs line c ns [] e s = tt
further-leaves cs line c ns (OpenLoop outer opener name array ∷ gs) e s = tt
further-leaves cs line c ns (OpenChoice outer opener finished l was ∷ gs) e s = by (is_otherwise was) refl
  where
    open s use {holds as h}

    moved : (a b c f : List d.Content) → (a ++ (b ++ c)) ++ f ≡ a ++ ((b ++ (c ++ f)) ++ [])
    moved a b c f = simp (append_assoc, append-nil)

    regrouped : (a b f c e g : List d.Content) → a ++ (b ++ ((f ++ (c ++ e)) ++ g)) ≡ (a ++ (b ++ f)) ++ (c ++ (e ++ g))
    regrouped a b f c e g = simp append_assoc

    here : line ≡ l + 1 + length h.inner
    here = omega (arith, e, ap length h.splits, length-append h.front (h.head ++ h.inner), length-append h.head h.inner, h.place, h.branch_place)

    more_begins : is_otherwise was ≡ false → BeginsChoice s.room opener (with_branch finished l was ns) line c (h.head ++ (h.inner ++ d.Further c ∷ []))
    more_begins t fs ds body rest stands further =
        subst (λ bs. NodeStands (suc s.room) opener ((h.head ++ (h.inner ++ d.Further c ∷ [])) ++ (fs ++ (ds ++ d.EndIf ∷ []))) (Choice bs)) (sym (joined-branch finished l was ns (Branch line c body rest)))
        (subst (λ x. NodeStands (suc s.room) opener x (Choice (joined_branches finished (Branch l was ns (Branch line c body rest))))) (regrouped h.head h.inner (d.Further c ∷ []) fs ds (d.EndIf ∷ []))
        (h.begins h.inner (d.Further c ∷ (fs ++ ds)) ns (Branch line c body rest) h.stands
        (subst (λ p. FurtherStand s.room p was (d.Further c ∷ (fs ++ ds)) (Branch line c body rest)) here (next t stands further))))

    by : (b : Bool) → is_otherwise was ≡ b → Leaves (cs ++ d.Further c ∷ []) (further line c ns (OpenChoice outer opener finished l was ∷ gs))
    by true t = rw t tt
    by false t =
        rw t (record {
          room = s.room;
          few = s.few;
          holds = record {
            front = h.front;
            head = h.head ++ (h.inner ++ d.Further c ∷ []);
            inner = [];
            splits = ap (λ x. x ++ d.Further c ∷ []) h.splits ∙ moved h.front h.head h.inner (d.Further c ∷ []);
            place = h.place;
            begun = omega (arith, h.begun, length-append h.head (h.inner ++ d.Further c ∷ []));
            branch_place = omega (arith, here, h.branch_place, length-append h.head (h.inner ++ d.Further c ∷ []), length-append h.inner (d.Further c ∷ []));
            before = h.before;
            begins = more_begins t;
            stands = none;
          };
        })

-- each line keeps what stands
line-leaves : (cs : List d.Content) (line : ℕ) (c : d.Content) (r : Reading) → line ≡ 1 + length cs → Standing r cs → Leaves (cs ++ c ∷ []) (after_line line c r)
line-leaves cs line (d.Alone s) r e h = node-leaves r cs line (d.Alone s) (Simple line s) e h (λ room. by_itself)
line-leaves cs line (d.Include expr) r e h = node-leaves r cs line (d.Include expr) (Included line expr) e h (λ room. include)
line-leaves cs line (d.If c) r e h = choice-opens r cs line c e h
line-leaves cs line (d.Further c) r e h = further-leaves cs line c r.nodes r.groups e h
line-leaves cs line d.EndIf r e h = choice-leaves cs line r.nodes r.groups e h
line-leaves cs line (d.For name array) r e h = loop-opens r cs line name array e h
line-leaves cs line d.EndFor r e h = loop-leaves cs line r.nodes r.groups e h
line-leaves cs line d.IllFormed r e h = tt

lines-leave : (cs : List d.Content) (line : ℕ) (ds : List d.Content) (r s : Reading) → line ≡ 1 + length cs → Standing r cs → read_from line ds r ≡ Ok s → Standing s (cs ++ ds)
lines-leave cs line [] r s e h told = let same : r ≡ s = cc in subst₂ Standing same (sym (append-nil cs)) h
lines-leave cs line (c ∷ ds) r s e h told = by (after_line line c r) refl (line-leaves cs line c r e h) (λ q. lines-leave (cs ++ c ∷ []) (line + 1) ds q s)
  where
    by : (x : Result Reading MacroKind) → after_line line c r ≡ x → Leaves (cs ++ c ∷ []) (after_line line c r) → ((q : Reading) → line + 1 ≡ 1 + length (cs ++ c ∷ []) → Standing q (cs ++ c ∷ []) → read_from (line + 1) ds q ≡ Ok s → Standing s ((cs ++ c ∷ []) ++ ds)) → Standing s (cs ++ c ∷ ds)
    by (Ok q) is left further =
        subst (Standing s) (append_assoc cs (c ∷ []) ds)
        (further q (omega (arith, e, length-append cs (c ∷ []))) (subst (Leaves (cs ++ c ∷ [])) is left) (sym (read-line line c ds r q is) ∙ told))
    by (Err kind) is left further = let no : ◌≡◌ {A = Result Reading Fault} (Err (record { kind = kind; line = line })) (Ok s) = sym (read-fault line c ds r kind is) ∙ told in cc

-- what is read from the beginning
pub stands : (cs : List d.Content) (r : Reading) → read_from 1 cs nothing_read ≡ Ok r → Standing r cs
stands cs r told = lines-leave [] 1 cs nothing_read r refl (record { room = 100; few = omega arith; holds = none }) told

whole-stands : (cs : List d.Content) (gs : List Group) (ms ns : Nodes) → Standing (record { groups = gs; nodes = ms }) cs → whole (record { groups = gs; nodes = ms }) ≡ Ok ns → NodesStand 100 1 cs ns
whole-stands cs [] ms ns s e =
    let same : ms ≡ ns = cc in
    let all : s.room ≡ 100 = omega (arith, s.few) in
    subst₂ (λ room x. NodesStand room 1 cs x) all same s.holds
whole-stands cs (g ∷ gs) ms ns s e = cc

-- where no group is open at the end, there is a tree
pub tree-stands : (cs : List d.Content) (ns : Nodes) → (read_from 1 cs nothing_read >>= whole) ≡ Ok ns → NodesStand 100 1 cs ns
tree-stands cs ns e = by (read_from 1 cs nothing_read) refl
  where
    by : (x : Result Reading Fault) → read_from 1 cs nothing_read ≡ x → NodesStand 100 1 cs ns
    by (Ok r) is = whole-stands cs r.groups r.nodes ns (stands cs r is) (sym (ap (λ x. x >>= whole) is) ∙ e)
    by (Err f) is = let no : Err f ≡ Ok ns = sym (ap (λ x. x >>= whole) is) ∙ e in cc

pub found-tree : (bytes : List ℕ) (ns : Nodes) → groups bytes ≡ Ok ns → NodesStand 100 1 (contents bytes) ns
found-tree bytes ns e = tree-stands (contents bytes) ns (sym (groups-contents bytes) ∙ e)

-- lines begin what they begin with one line more
begins_before : (cs : List d.Content) (c : d.Content) → Begins (cs ++ c ∷ []) → Begins cs
begins_before cs c b = (c ∷ b.0, (b.1.0, subst (λ x. NodesStand 100 1 x b.1.0) (append_assoc cs (c ∷ []) b.0) b.1.1))

-- what is open can be ended
goes-on : (gs : List Group) (ns : Nodes) (cs : List d.Content) → Standing (record { groups = gs; nodes = ns }) cs → Begins cs
goes-on [] ns cs s =
    let all : s.room ≡ 100 = omega (arith, s.few) in
    ([], (ns, subst₂ (λ room x. NodesStand room 1 x ns) all (sym (append-nil cs)) s.holds))
goes-on (OpenLoop outer opener name array ∷ gs) ns cs s =
    begins_before cs d.EndFor (goes-on gs (with_node outer (Loop opener name array ns)) (cs ++ d.EndFor ∷ []) (loop-leaves cs _ ns (OpenLoop outer opener name array ∷ gs) refl s))
goes-on (OpenChoice outer opener finished l was ∷ gs) ns cs s =
    begins_before cs d.EndIf (goes-on gs (with_node outer (Choice (with_branch finished l was ns))) (cs ++ d.EndIf ∷ []) (choice-leaves cs _ ns (OpenChoice outer opener finished l was ∷ gs) refl s))

pub read-begins : (cs : List d.Content) (r : Reading) → read_from 1 cs nothing_read ≡ Ok r → Begins cs
read-begins cs r told = goes-on r.groups r.nodes cs (stands cs r told)
