-- What a sound world says of the nodes on which the rows of the choice operate; and how often a
-- waiter that stands aside is passed by.
use Rattle.std.proofs.Common.{◌≡◌, ◌<◌, inl, inr, ℕ, Option, Some, None, Bool, true, false, List}
use Rattle.std.proofs.Common.{arith, ap, refl, sym, ◌∙◌, subst, slice_get, ◌==◌, ◌||◌, nat_lt}
use Rattle.std.proofs.Common.{is_some, if◌then◌else◌}
use Rattle.std.proofs.lemmas.Bool.{ltb-false}
use Rattle.lk_law.proofs.Names.{cases_Bool, NodeName, LockHistory, is_local, Format, LockName}
use Rattle.lk_law.proofs.Names.{Waiter, node_of, Frame, Pc, C1, C2, C3, C4, C5, C6, C7, C8, C9, C10}
use Rattle.lk_law.proofs.Names.{Why, CnaAgrees, FrontAgrees, moves_aside, named_by, chooses}
use Rattle.lk_law.proofs.Names.{IsOwnNode, Phase, has_node, queues, Holds, kept_in, own_in}
use Rattle.lk_law.proofs.Names.{phase_at, phase_if, phase_on, snapshot, stage_at, stage_if}
use Rattle.lk_law.proofs.Names.{stage_on, stage_why, Uses, IsSoundSpinWorld, Stage, tied, Counts}
use Rattle.lk_law.proofs.Names.{Hangs, Picked, Picks, World}
use Rattle.lk_names.specs.{Lawful.same_socket, declared.names.Format.TheVariants.{One, Two}}
use Rattle.lk_law.proofs.cna.Front.{owner_next, owner_last, owner_tail, owner_second, owner_moved}
use Rattle.lk_law.proofs.cna.MoveAllowed.{cna_bounded}
use Rattle.lk_law.proofs.common.Families.{Last, lists_front, lists_main}
use Rattle.lk_law.proofs.common.Puts.{if-true, if-false}
use Rattle.lk_law.proofs.common.Users.{user_of, own_node, some_is}
use Rattle.lk_law.proofs.common.Worlds.{phase_on-here, stage_on-here}
use Rattle.lk_law.specs.Known.{ChoiceIsUsed, PassesAreBounded, RunsAreBounded, RunIsShort}
use Rattle.lk_law.specs.Known.{SkippedIsQueued, QueueIsDistinct, AsideAreTasks}
use Rattle.lk_rows.specs.declared.parts.Why.TheVariants as why

module _ {m : World} {hs : LockName → LockHistory} {w : Waiter} {f : Frame} {c : Pc}
    (ok : IsSoundSpinWorld m hs) (live : m.frame w ≡ Some f) (place : f.place ≡ Some c) where
  -- a waiter that the laws see with the node uses it
  used : {n : NodeName} → Last ((snapshot m).phase f.lock) (snapshot m).own n
      → (u : Waiter) × Uses m u n × IsOwnNode u n
  used u = (
    u.by,
    subst (Uses m u.by) u.owned (user_of ok f.lock u.by u.noded),
    subst (IsOwnNode u.by) u.owned (own_node ok f.lock u.by u.noded),
  )

  module _ (on : chooses c ≡ true) where
    choosing_phase : (d : Pc) → chooses d ≡ true
        → phase_at d (is_some f.me) (node_of f.prev) (node_of f.y) ≡ Holds
    choosing_phase d h = grind arith

    pub phase_here : (snapshot m).phase f.lock w ≡ Holds
    phase_here = ap (phase_on f.lock) live ∙ phase_on-here f.lock f refl
        ∙ ap (λ (o : Option Pc). phase_if o (is_some f.me) (node_of f.prev) (node_of f.y)) place
        ∙ choosing_phase c on

    pub stage_here : (snapshot m).stage f.lock w ≡ stage_at c f
    stage_here = ap (stage_on f.lock) live ∙ stage_on-here f.lock f refl
        ∙ ap (λ (o : Option Pc). stage_if o f) place

    pub lists : CnaAgrees ((snapshot m).word f.lock).tail ((snapshot m).phase f.lock)
        (snapshot m).own (snapshot m).node (snapshot m).local (snapshot m).threshold
        ((snapshot m).stage f.lock) (snapshot m).kept
        (hs f.lock).main (hs f.lock).second (hs f.lock).passes
    lists = (ok.agrees.locks f.lock).lists.cna ((ok.registers w f live).choice.choice c place on)

    pub at_front : slice_get (hs f.lock).main 0 ≡ Some w
    at_front = lists_front (ok.agrees.locks f.lock).lists w (grind (arith, phase_here))

    mine : Last ((snapshot m).phase f.lock) (snapshot m).own (node_of f.me)
    mine = record { by = w; noded = ap has_node phase_here; owned = ap own_in live }

pub choice_is_used : ChoiceIsUsed
choice_is_used m hs w f C1 ok live place on = used ok live place (mine ok live place on)
choice_is_used m hs w f C2 ok live place on =
    used ok live place
    (owner_last (lists ok live place on) (at_front ok live place on)
    (phase_here ok live place on) (stage_here ok live place on) (node_of f.a) (node_of f.b) f.k
    refl)
choice_is_used m hs w f C3 ok live place on =
    let named : kept_in (m.frame w) ≡ Some (node_of f.second) = ap kept_in live
    ∙ some_is f.second ((ok.registers w f live).choice.second C3 place refl) in
    used ok live place
    (owner_second (lists ok live place on) (at_front ok live place on)
    (phase_here ok live place on) (stage_here ok live place on) (node_of f.second) (loose f.why)
    named)
  where
    loose : (y : Why) → tied (stage_why f y) ≡ false
    loose why.Append = refl
    loose why.Flush = refl
    loose why.Promotion = refl
choice_is_used m hs w f C4 ok live place on =
    used ok live place
    (owner_tail (lists ok live place on) (at_front ok live place on)
    (phase_here ok live place on) (stage_here ok live place on) (node_of f.t) refl)
choice_is_used m hs w f C5 ok live place on =
    used ok live place
    (owner_last (lists ok live place on) (at_front ok live place on)
    (phase_here ok live place on) (stage_here ok live place on) (node_of f.a) (node_of f.b) f.k
    refl)
choice_is_used m hs w f C6 ok live place on =
    let named : kept_in (m.frame w) ≡ Some (node_of f.second) = ap kept_in live
    ∙ some_is f.second ((ok.registers w f live).choice.second C6 place refl) in
    used ok live place
    (owner_moved (lists ok live place on) (at_front ok live place on)
    (phase_here ok live place on) (stage_here ok live place on) (node_of f.a) (node_of f.b) f.k
    (node_of f.second) refl refl named)
choice_is_used m hs w f C7 ok live place on =
    elim (cases_Bool (f.k == 0)) [
      | inl zero ↦
          used ok live place (owner_next (lists ok live place on) (at_front ok live place on)
          (phase_here ok live place on)
          (stage_here ok live place on
          ∙ if-true (f.k == 0) (Picks (node_of f.y))
          (Hangs (node_of f.a) (node_of f.b) f.k (node_of f.y)) zero) 0 (node_of f.y) refl)
      | inr some ↦
          used ok live place (owner_next (lists ok live place on) (at_front ok live place on)
          (phase_here ok live place on)
          (stage_here ok live place on
          ∙ if-false (f.k == 0) (Picks (node_of f.y))
          (Hangs (node_of f.a) (node_of f.b) f.k (node_of f.y)) some) f.k (node_of f.y) refl)
    ]
choice_is_used m hs w f C8 ok live place on =
    elim (cases_Bool (f.k == 0)) [
      | inl zero ↦
          used ok live place (owner_next (lists ok live place on) (at_front ok live place on)
          (phase_here ok live place on)
          (stage_here ok live place on
          ∙ if-true (f.k == 0) (Picked (node_of f.y))
          (Counts (node_of f.a) (node_of f.b) f.k (node_of f.y)) zero) 0 (node_of f.y) refl)
      | inr some ↦
          used ok live place (owner_next (lists ok live place on) (at_front ok live place on)
          (phase_here ok live place on)
          (stage_here ok live place on
          ∙ if-false (f.k == 0) (Picked (node_of f.y))
          (Counts (node_of f.a) (node_of f.b) f.k (node_of f.y)) some) f.k (node_of f.y) refl)
    ]
choice_is_used m hs w f C9 ok live place on =
    used ok live place
    (owner_tail (lists ok live place on) (at_front ok live place on)
    (phase_here ok live place on) (stage_here ok live place on) (node_of f.t) refl)
choice_is_used m hs w f C10 ok live place on = used ok live place (mine ok live place on)
choice_is_used m hs w f _ ok live place on = cc

pub passes_are_bounded : PassesAreBounded
passes_are_bounded m hs l ok i n h =
    let o = (ok.agrees.locks l).lists in
    elim (cases_Bool (moves_aside m.mode)) [
      | inl e ↦ cna_bounded (o.cna e) i n h
      | inr e ↦ let none = ap (λ (ns : List ℕ). slice_get ns i) (o.flat e).unpassed in
          grind (arith, none, h)
    ]

module _ {m : World} {hs : LockName → LockHistory} {w : Waiter} {f : Frame} {c : Pc}
    (ok : IsSoundSpinWorld m hs) (live : m.frame w ≡ Some f) (place : f.place ≡ Some c)
    (on : chooses c ≡ true) where
  abbrev Fronts : Stage → Option NodeName → Type 0
  Fronts g n =
      FrontAgrees ((snapshot m).phase f.lock) (snapshot m).own (snapshot m).node (snapshot m).local
      (snapshot m).threshold (hs f.lock).main (hs f.lock).second (hs f.lock).passes w g n

  named : named_by ((snapshot m).phase f.lock w) ((snapshot m).node ((snapshot m).own w)).flag
      ((snapshot m).kept w) ≡ f.second
  named = ap (λ (p : Phase).
      named_by p ((snapshot m).node ((snapshot m).own w)).flag ((snapshot m).kept w))
      (phase_here ok live place on) ∙ ap kept_in live

  -- what the front of the queue knows
  front : Fronts (stage_at c f) f.second
  front =
      subst (λ (n : Option NodeName). Fronts (stage_at c f) n) named
      (subst (λ (g : Stage).
      Fronts g (named_by ((snapshot m).phase f.lock w)
      ((snapshot m).node ((snapshot m).own w)).flag ((snapshot m).kept w)))
      (stage_here ok live place on)
      ((lists ok live place on).lead w (at_front ok live place on)))

  own_is : (snapshot m).own w ≡ node_of f.me
  own_is = ap own_in live

pub runs_are_bounded : RunsAreBounded
runs_are_bounded m hs n ok = ok.plain.runs n

-- In every sound world a front that tells the next of a second queue has made fewer handovers than
-- the threshold.
pub run_is_short : RunIsShort
run_is_short m hs w f ok live place named =
    let o = front ok live place refl in
    let own : (m.node ((snapshot m).own w)).runs ≡ (m.node (node_of f.me)).runs =
    ap (λ (n : NodeName). (m.node n).runs) (own_is ok live place refl) in
    let short = by_k (f.k == 0) o in
    omega (arith, short, own)
  where
    by_k : (b : Bool)
        → FrontAgrees ((snapshot m).phase f.lock) (snapshot m).own (snapshot m).node
        (snapshot m).local (snapshot m).threshold (hs f.lock).main (hs f.lock).second
        (hs f.lock).passes w
        (if b then Picks (node_of f.y) else Hangs (node_of f.a) (node_of f.b) f.k (node_of f.y))
        f.second → (m.node ((snapshot m).own w)).runs < m.threshold
    by_k true o = o.run_picks (node_of f.second) refl (some_is f.second named)
    by_k false o = o.run_short (node_of f.a) (node_of f.b) f.k refl

-- In every sound world whoever was passed over stands in the main queue.
pub skipped_is_queued : SkippedIsQueued
skipped_is_queued m hs w f ok live place =
    let o = front ok live place refl in
    let k = o.some (node_of f.a) (node_of f.b) f.k refl in
    let u = o.far (node_of f.a) (node_of f.b) f.k k.0 refl (let e = k.1 in omega arith) in
    (u.0, subst (λ (i : ℕ). slice_get (hs f.lock).main i ≡ Some u.0) (sym k.1) u.1)

-- In the second format who stands aside is a task.
pub aside_are_tasks : AsideAreTasks
aside_are_tasks m hs l i u ok two h =
    elim (cases_Bool (moves_aside m.mode)) [
      | inl e ↦ let v = ((ok.agrees.locks l).lists.cna e).moved i u h in
          by_format m.format two v.0 v.1
      | inr e ↦ absurd (let none = ((ok.agrees.locks l).lists.flat e).single in
          cc (ap (λ (us : List Waiter). slice_get us i) none, h))
    ]
  where
    by_ctx : (c : ℕ) (b : Bool) → (nat_lt 0 c || b) ≡ false → c ≡ 0
    by_ctx c b e =
        elim (cases_Bool (nat_lt 0 c)) [
          | inl some ↦ absurd (let no : true ≡ false = rw some at e in cc no)
          | inr none ↦ let le = ltb-false 0 c none in omega (arith, le)
        ]

    by_format : (format : Format) → format ≡ Two → (w : Waiter)
        → is_local format m.sockets w.cpu u ≡ false → u.ctx ≡ 0
    by_format One e w far = cc e
    by_format Two e w far = by_ctx u.ctx (same_socket m.sockets w.cpu u.cpu) far

-- In every sound world who stands in the main queue stands in it once, and has a frame.
pub queue_is_distinct : QueueIsDistinct
queue_is_distinct m hs l ok =
    let o = (ok.agrees.locks l).lists in (
      λ i u h. framed u (m.frame u) refl (lists_main o i u h),
      λ i j u h k.
          elim (cases_Bool (moves_aside m.mode)) [
            | inl e ↦ (o.cna e).queue.members.once i j u h k
            | inr e ↦ (o.flat e).queue.members.once i j u h k
          ],
    )
  where
    framed : (u : Waiter) (x : Option Frame) → m.frame u ≡ x
        → queues ((snapshot m).phase l u) ≡ true → (f : Frame) × (m.frame u ≡ Some f)
    framed u (Some f) e q = (f, e)
    framed u None e q =
        absurd (let z = ap (λ (x : Option Frame). queues (phase_on l x)) e in grind (arith, z, q))
