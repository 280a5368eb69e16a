-- Whose nodes a front meets while it chooses the next, and what the chosen one does.
use Rattle.std.proofs.Common.{◌≡◌, ℕ, Option, Some, None, Bool, true, false, List, [], ◌∷◌, inl}
use Rattle.std.proofs.Common.{inr, ap, refl, sym, ◌∙◌, subst, arith, slice_get, ◌==◌, is_some}
use Rattle.std.proofs.Common.{if◌then◌else◌}
use Rattle.lk_law.proofs.Names.{cases_Bool, NodeName, last_cases, LockHistory, same_lock, LockName}
use Rattle.lk_law.proofs.Names.{Waiter, node_of, Second, Unset, Frame, Node, Pc, C1, C2, C3, C7, C8}
use Rattle.lk_law.proofs.Names.{Why, CnaAgrees, first_node, moves_aside, named_by, chooses}
use Rattle.lk_law.proofs.Names.{IsOwnNode, Phase, has_node, Holds, Idle, Waits, kept_in, own_in}
use Rattle.lk_law.proofs.Names.{phase_at, phase_if, phase_of, phase_on, snapshot, stage_why, Uses}
use Rattle.lk_law.proofs.Names.{IsSoundSpinWorld, Stage, chosen, cut_of, hangs, tied, Counts, Hangs}
use Rattle.lk_law.proofs.Names.{Picked, Picks, Rests, Skips, World}
use Rattle.lk_law.proofs.cna.Front.{front_lead, front_queue, tail_known}
use Rattle.lk_law.proofs.cna.Knows.{lists, at_front, phase_here, stage_here}
use Rattle.lk_law.proofs.{cna.Look.{look-next, look-b}, cna.Parts.shown_flag}
use Rattle.lk_law.proofs.common.Families.{Last, lists_front}
use Rattle.lk_law.proofs.common.Puts.{if-true, if-false, not-true}
use Rattle.lk_law.proofs.common.Users.{user_of, own_node, node_is_ones, some_is}
use Rattle.lk_law.proofs.common.Worlds.{phase_on-here}
use Rattle.lk_law.specs.Nodes.{SecondTailIsUsed, BehindIsUsed, FirstIsUsed, ChosenWaits, tells_next}
use Rattle.lk_rows.specs.declared.parts.Why.TheVariants as why

first_of : (own : Waiter → NodeName) (ws : List Waiter) (n : NodeName) → first_node own ws ≡ Some n
    → (u : Waiter) × (slice_get ws 0 ≡ Some u) × (own u ≡ n)
first_of own [] n h = cc h
first_of own (z ∷ ws) n h = (z, refl, (let q : own z ≡ n = cc h in q))

name_is : {a b : NodeName} → Some a ≡ Some b → a ≡ b
name_is e = cc e

-- on the lists of a lock whose front chooses
module _ {tail : Option NodeName} {phase : Waiter → Phase} {own : Waiter → NodeName}
    {node : NodeName → Node} {local : Waiter → Waiter → Bool} {threshold : ℕ}
    {stage : Waiter → Stage} {kept : Waiter → Option NodeName} {main second : List Waiter}
    {passes : List ℕ} {w : Waiter} {g : Stage}
    (ok : CnaAgrees tail phase own node local threshold stage kept main second passes)
    (at_w : slice_get main 0 ≡ Some w) (holds : phase w ≡ Holds) (is : stage w ≡ g) where
  -- the last of the second queue
  owner_seen : (n t : NodeName) → tied g ≡ false → hangs g ≡ None → kept w ≡ Some n
      → (node n).second_tail ≡ Some t → Last phase own t
  owner_seen n t loose unhung named seen =
      let lead = front_lead ok at_w holds is in
      let u = first_of own second n (sym (lead.names (inl loose)) ∙ named) in
      elim (last_cases second) [
        | inl none ↦ absurd (let e : slice_get second 0 ≡ None = ap (λ (ws : List Waiter). slice_get ws 0) none in let z : ⊥ = some_none (sym u.1 ∙ e) in z)
        | inr p ↦
            let last : (node (own u.0)).second_tail ≡ Some (own p.1) = lead.tail_at p.0 u.0 p.1 unhung u.1 p.2 p.3 in
            let same : t ≡ own p.1 = name_is (sym seen ∙ (ap (λ (b : NodeName). (node b).second_tail) (sym u.2) ∙ last)) in
            record { by = p.1; noded = ap has_node (ok.second_ok.waits p.0 p.1 p.2).0; owned = sym same }
      ]
    where
      some_none : {v : Waiter} → Some v ≡ None → ⊥
      some_none e = cc e

  -- the one behind a waiter of the queue, while no link is cut
  owner_behind : (i : ℕ) (u : Waiter) (n : NodeName) → cut_of (own w) g ≡ None → slice_get main i ≡ Some u
      → (node (own u)).next ≡ Some n → Last phase own n
  owner_behind i u n whole at next =
      let v = look-next ok at_w holds g is whole i u n at next in
      record { by = v.0; noded = ap has_node v.2; owned = v.3 }

  -- whom the lead goes to waits, and its flag is unset
  chosen_waits : (k : ℕ) (y : NodeName) → chosen g ≡ Some (k, y)
      → (v : Waiter) × (phase v ≡ Waits) × (own v ≡ y) × ((node y).flag ≡ Unset)
  chosen_waits k y e =
      let v = (front_lead ok at_w holds is).next k y e in
      let q = (front_queue ok at_w holds is).ends.behind k v.0 v.1 in (
        v.0,
        v.2,
        v.3,
        ap (λ (n : NodeName). (node n).flag) (sym v.3)
            ∙ (sym (shown_flag (cut_of (own w) g) node (own v.0)) ∙ q.1),
      )

module _ {m : World} {hs : LockName → LockHistory} {w : Waiter} {f : Frame} {c : Pc}
    (ok : IsSoundSpinWorld m hs) (live : m.frame w ≡ Some f) (place : f.place ≡ Some c) where
  -- a waiter that the laws see with the node uses it
  used : {n : NodeName} → Last ((snapshot m).phase f.lock) (snapshot m).own n
      → (u : Waiter) × Uses m u n × IsOwnNode u n
  used u = (
    u.by,
    subst (Uses m u.by) u.owned (user_of ok f.lock u.by u.noded),
    subst (IsOwnNode u.by) u.owned (own_node ok f.lock u.by u.noded),
  )

-- a front that looks for the last of the second queue finds the node of a waiter
pub second_tail_is_used : SecondTailIsUsed
second_tail_is_used m hs w f ok live place =
    let named : kept_in (m.frame w) ≡ Some (node_of f.second) = ap kept_in live
    ∙ some_is f.second ((ok.registers w f live).choice.second C3 place refl) in
    let t = tail_known (lists ok live place refl) (at_front ok live place refl) (phase_here ok live place refl)
    (stage_here ok live place refl) (node_of f.second) (loose f.why) (unhung f.why) named in (
      t.0,
      t.1,
      used ok live place
          (owner_seen (lists ok live place refl) (at_front ok live place refl) (phase_here ok live place refl)
          (stage_here ok live place refl) (node_of f.second) t.0 (loose f.why) (unhung f.why) named t.1),
    )
  where
    loose : (y : Why) → tied (stage_why f y) ≡ false
    loose why.Append = refl
    loose why.Flush = refl
    loose why.Promotion = refl

    unhung : (y : Why) → hangs (stage_why f y) ≡ None
    unhung why.Append = refl
    unhung why.Flush = refl
    unhung why.Promotion = refl

-- and where it looks on along the links
pub behind_is_used : BehindIsUsed
behind_is_used m hs w f C1 n ok live place on linked =
    used ok live place
    (owner_behind (lists ok live place refl) (at_front ok live place refl) (phase_here ok live place refl)
    (stage_here ok live place refl) 0 w n refl (at_front ok live place refl)
    (ap (λ (b : NodeName). (m.node b).next) (ap own_in live) ∙ linked))
behind_is_used m hs w f C2 n ok live place on linked =
    let z = look-b (lists ok live place refl) (at_front ok live place refl) (phase_here ok live place refl)
    (node_of f.a) (node_of f.b) f.k (Skips (node_of f.a) (node_of f.b) f.k) (stage_here ok live place refl) refl in
    used ok live place
    (owner_behind (lists ok live place refl) (at_front ok live place refl) (phase_here ok live place refl)
    (stage_here ok live place refl) f.k z.0 n refl z.1
    (ap (λ (b : NodeName). (m.node b).next) z.2 ∙ linked))
behind_is_used m hs w f _ n ok live place on linked = cc on

-- a flag that names a node names the first of the second queue
pub first_is_used : FirstIsUsed
first_is_used m hs w f n ok live place named =
    let s = snapshot m in
    let own : s.own w ≡ node_of f.me = ap own_in live in
    let waits : s.phase f.lock w ≡ Waits =
    ap (phase_on f.lock) live ∙ phase_on-here f.lock f refl
    ∙ ap (λ (o : Option Pc). phase_if o (is_some f.me) (node_of f.prev) (node_of f.y)) place in
    let flag : (m.node (s.own w)).flag ≡ Second n = ap (λ (b : NodeName). (m.node b).flag) own ∙ named in
    elim (cases_Bool (moves_aside m.mode)) [
      | inl e ↦
          let o = (ok.agrees.locks f.lock).lists.cna e in
          let front : slice_get (hs f.lock).main 0 ≡ Some w =
          lists_front (ok.agrees.locks f.lock).lists w (grind (arith, waits, flag)) in
          let rests : s.stage f.lock w ≡ Rests = o.calm w (λ h. let z : Waits ≡ Holds = sym waits ∙ h in cc z) in
          let loose : tied (s.stage f.lock w) ≡ false = ap tied rests in
          let names : Some n ≡ first_node s.own (hs f.lock).second =
          sym (λ i. named_by (waits i) (flag i) (s.kept w)) ∙ (o.lead w front).names (inl loose) in
          let u = first_of s.own (hs f.lock).second n (sym names) in
          used ok live place
          (record { by = u.0; noded = ap has_node (o.second_ok.waits 0 u.0 u.1).0; owned = u.2 })
      | inr e ↦ absurd (ok.plain.flag e (node_of f.me) n named)
    ]

-- who waits chooses nobody
waiting_chooses : (l : LockName) (g : Frame) (d : Pc) → phase_on l (Some g) ≡ Waits → g.place ≡ Some d
    → chooses d ≡ false
waiting_chooses l g d waits place =
    not-true (chooses d) (λ on. by (same_lock g.lock l) (choosing on) waits)
  where
    holding : (c : Pc) → chooses c ≡ true → phase_at c (is_some g.me) (node_of g.prev) (node_of g.y) ≡ Holds
    holding c h = grind arith

    choosing : chooses d ≡ true → phase_of g ≡ Holds
    choosing h = ap (λ (o : Option Pc). phase_if o (is_some g.me) (node_of g.prev) (node_of g.y)) place ∙ holding d h

    by : (b : Bool) → phase_of g ≡ Holds → (if b then phase_of g else Idle) ≡ Waits → ⊥
    by true h e = let z : Holds ≡ Waits = sym h ∙ e in cc z
    by false h e = cc e

-- the chosen one waits for its flag
pub chosen_waits_for_it : ChosenWaits
chosen_waits_for_it m hs w f c ok live place on = tell (by c on place)
  where
    Chosen : Type 0
    Chosen = (v : Waiter) × ((snapshot m).phase f.lock v ≡ Waits) × ((snapshot m).own v ≡ node_of f.y)
        × ((m.node (node_of f.y)).flag ≡ Unset)

    tell : Chosen → ((m.node (node_of f.y)).flag ≡ Unset)
        × ((u : Waiter) (g : Frame) (d : Pc) → Uses m u (node_of f.y) → m.frame u ≡ Some g → g.place ≡ Some d
        → chooses d ≡ false)
    tell v = (
      v.3,
      λ u g d uses has at.
          let mine : Uses m v.0 (node_of f.y) = subst (Uses m v.0) v.2 (user_of ok f.lock v.0 (ap has_node v.1)) in
          let same : u ≡ v.0 = (node_is_ones m hs u v.0 (node_of f.y) ok uses mine).0 in
          waiting_chooses f.lock g d
          (ap (phase_on f.lock) (sym has) ∙ (ap (λ (x : Waiter). (snapshot m).phase f.lock x) same ∙ v.1)) at,
    )

    by : (d : Pc) → tells_next d ≡ true → f.place ≡ Some d → Chosen
    by C7 h at =
        elim (cases_Bool (f.k == 0)) [
          | inl zero ↦ chosen_waits (lists ok live at refl) (at_front ok live at refl) (phase_here ok live at refl)
              (stage_here ok live at refl ∙ if-true (f.k == 0) (Picks (node_of f.y)) (Hangs (node_of f.a) (node_of f.b) f.k (node_of f.y)) zero)
              0 (node_of f.y) refl
          | inr some ↦ chosen_waits (lists ok live at refl) (at_front ok live at refl) (phase_here ok live at refl)
              (stage_here ok live at refl ∙ if-false (f.k == 0) (Picks (node_of f.y)) (Hangs (node_of f.a) (node_of f.b) f.k (node_of f.y)) some)
              f.k (node_of f.y) refl
        ]
    by C8 h at =
        elim (cases_Bool (f.k == 0)) [
          | inl zero ↦ chosen_waits (lists ok live at refl) (at_front ok live at refl) (phase_here ok live at refl)
              (stage_here ok live at refl ∙ if-true (f.k == 0) (Picked (node_of f.y)) (Counts (node_of f.a) (node_of f.b) f.k (node_of f.y)) zero)
              0 (node_of f.y) refl
          | inr some ↦ chosen_waits (lists ok live at refl) (at_front ok live at refl) (phase_here ok live at refl)
              (stage_here ok live at refl ∙ if-false (f.k == 0) (Picked (node_of f.y)) (Counts (node_of f.a) (node_of f.b) f.k (node_of f.y)) some)
              f.k (node_of f.y) refl
        ]
    by _ h at = cc h
