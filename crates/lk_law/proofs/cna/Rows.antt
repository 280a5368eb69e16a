use Rattle.std.proofs.Common.{◌≡◌, ◌≢◌, ℕ, zero, suc, Option, Some, None, Bool, true, false, List}
use Rattle.std.proofs.Common.{[], ◌∷◌, ◌++◌, ◌⊎◌, inl, inr, arith, ap, refl, sym, ◌∙◌, subst}
use Rattle.std.proofs.Common.{slice_get}
use Rattle.lk_law.proofs.Names.{cases_Bool, NodeName, get-append_old, get_cases, Waiter, rest_node}
use Rattle.lk_law.proofs.Names.{Node, CnaAgrees, FrontAgrees, front_cut, front_tip, is_in, named_by}
use Rattle.lk_law.proofs.Names.{part, shown, Phase, has_node, leads, queues, Holds, Links, Prepared}
use Rattle.lk_law.proofs.Names.{Waits, Moves, Rewrites, Stage, cut_of, parted, picks, Counts, Cuts}
use Rattle.lk_law.proofs.Names.{Hangs, Picked, Picks, Rests}
use Rattle.lk_law.proofs.{cna.Hand.second_keep, cna.Joined.get_below}
use Rattle.lk_law.proofs.cna.Keep.{lead_keep, parted-at}
use Rattle.lk_law.proofs.cna.Parts.{part_cases, part_out, not_in, outside_part, shown_at}
use Rattle.lk_law.proofs.{cna.Parts.{shown_else, shown_flag, shown_same}, cna.Steps.GoesAhead}
use Rattle.lk_law.proofs.common.Cases.{waiter_cases, node_cases, Apart}
use Rattle.lk_law.proofs.{queue.Arrive.arrive_behind, queue.Keep.queue_keep, queue.Lead.queue_lead}
use Rattle.lk_law.proofs.queue.Link.{queue_link_at}

pub part_moves : (second : List Waiter) (phase phase' : Waiter → Phase) (x : Waiter) (r r' : Phase)
    → ((i : ℕ) → slice_get second i ≡ Some x → ⊥) → Moves phase phase' x r r'
    → Moves (part second phase) (part second phase') x r r'
part_moves second phase phase' x r r' out moves =
    record {
      was = outside_part second phase x out ∙ moves.was;
      now = outside_part second phase' x out ∙ moves.now;
      others = λ u ne.
          elim (cases_Bool (is_in second u)) [
            | inl t ↦ grind (arith, t)
            | inr f ↦ grind (arith, f, moves.others u ne)
          ];
    }

-- a node that is shown with none behind it is shown as it is
pub shown_bare : (c : Option (NodeName × NodeName)) (node node' : NodeName → Node) (n : NodeName)
    → (shown c node n).next ≡ None → (shown c node' n ≡ node' n) × (shown c node n ≡ node n)
shown_bare None node node' n e = (refl, refl)
shown_bare (Some p) node node' n e =
    elim (node_cases n p.0) [
      | inl q ↦ absurd (let z = ap (λ (x : Node). x.next) (shown_at p.0 p.1 node n q) in cc (z, e))
      | inr ne ↦ (shown_else p.0 p.1 node' n ne, shown_else p.0 p.1 node n ne)
    ]

-- a fresh node is at rest
pub cna_rest : {tail : Option NodeName} {phase : Waiter → Phase} {own : Waiter → NodeName}
    {node : NodeName → Node} {local : Waiter → Waiter → Bool} {threshold : ℕ}
    {stage : Waiter → Stage} {kept : Waiter → Option NodeName} {main second : List Waiter}
    {passes : List ℕ}
    → CnaAgrees tail phase own node local threshold stage kept main second passes → (u : Waiter)
    → phase u ≡ Prepared → node (own u) ≡ rest_node
cna_rest {phase = phase} {own = own} {node = node} {stage = stage} {main = main} {second = second}
    ok
    u f =
    let c = front_cut own stage (slice_get main 0) in
    let p : part second phase u ≡ phase u =
    outside_part second phase u (λ i h. cc ((ok.second_ok.waits i u h).0, f)) in
    let q = ok.queue.links.fresh u (p ∙ f) in
    sym (shown_bare c node node (own u) (ap (λ (n : Node). n.next) q)).1 ∙ q

module _ {tail : Option NodeName} {phase : Waiter → Phase} {own : Waiter → NodeName}
    {node : NodeName → Node} {local : Waiter → Waiter → Bool} {threshold : ℕ}
    {stage : Waiter → Stage} {kept : Waiter → Option NodeName} {main second : List Waiter}
    {passes : List ℕ}
    (ok : CnaAgrees tail phase own node local threshold stage kept main second passes) where
  -- who stands in a list
  rows-main : (i : ℕ) (u : Waiter) → slice_get main i ≡ Some u
      → (part second phase u ≡ phase u) × (is_in second u ≡ false) × (queues (phase u) ≡ true)
      × (has_node (phase u) ≡ true)
  rows-main i u h =
      let q = ok.queue.members.inside i u h in let p = part_out second phase u q in
      let z : queues (phase u) ≡ true = ap queues (sym p.0) ∙ q in
      (p.0, p.1, z, noded (phase u) z)
    where
      noded : (r : Phase) → queues r ≡ true → has_node r ≡ true
      noded r p = grind arith

  rows-apart_w : (w : Waiter) → slice_get main 0 ≡ Some w → (i : ℕ) (u : Waiter)
      → slice_get main (suc i) ≡ Some u → u ≢ w
  rows-apart_w w at i u h e =
      let o = ok.queue.members.once (suc i) 0 w (h ∙ ap (λ z. Some z) e) at in grind (arith, o)

  rows-apart_s : (w : Waiter) → slice_get main 0 ≡ Some w → (i : ℕ) (u : Waiter)
      → slice_get second i ≡ Some u → u ≢ w
  rows-apart_s w at i u h e = not_in second w (rows-main 0 w at).1 i (h ∙ ap (λ z. Some z) e)

  module _ {phase' : Waiter → Phase} {stage' : Waiter → Stage} {kept' : Waiter → Option NodeName}
      {x : Waiter} where
    -- row G4: a waiter seeks the tail and meets a node there
    pub cna_behind : {p : NodeName} → Moves phase phase' x Prepared (Links p) → tail ≡ Some p
        → ((u : Waiter) → stage' u ≡ stage u) → ((u : Waiter) → u ≢ x → kept' u ≡ kept u)
        → CnaAgrees (Some (own x)) phase' own node local threshold stage' kept' (main ++ x ∷ [])
        second passes
    cna_behind {p} moves met stages keeps =
        let out : (i : ℕ) → slice_get second i ≡ Some x → ⊥ =
        λ i h. cc ((ok.second_ok.waits i x h).0, moves.was) in
        let w = elim (get_cases main 0) as
        (λ z. (w : Waiter)
        × (slice_get main 0 ≡ Some w)) [
          | inl n ↦ absurd
              (let e = ok.queue.ends.no_tail n in cc (e, met))
          | inr q ↦ q
        ] in
        let m = rows-main 0 w.0 w.1 in
        let nx : w.0 ≢ x = (λ e. let z = ap phase e in grind (arith, m.2, z, moves.was)) in
        let at = get-append_old main x 0 w.0 w.1 in
        let st : stage' ≡ stage = (λ i u. stages u i) in
        let q =
        arrive_behind ok.queue (part_moves second phase phase' x Prepared (Links p) out moves) met
        in
        record {
          queue = rw (st, at) (rw w.1 at q);
          second_ok = rw (st, at)
              (rw w.1 at (second_keep {phase' = phase'} {own' = own} {node' = node} ok.second_ok
              (λ i u h. let ne : u ≢ x = (λ e. out i (h ∙ ap (λ z. Some z) e)) in
              (moves.others u ne, refl, refl))));
          moved = ok.moved;
          lead = λ u h.
              let same : w.0 ≡ u = cc (at, h) in
              let P : Waiter → Type 0 =
              λ z. FrontAgrees phase' own node local threshold (main ++ x ∷ []) second passes z
              (stage' z) (named_by (phase' z) ((node (own z)).flag) (kept' z)) in
              subst P same
              (rw (st, moves.others w.0 nx, keeps w.0 nx)
              (lead_keep (ok.lead w.0 w.1) ok.second_ok (record {
                queued = m.2;
                grows = λ i u h. get-append_old main x i u h;
                waits = λ u r ne.
                    let nu : u ≢ x = (λ e. let z = ap phase e in cc (z, r, moves.was)) in
                    (moves.others u nu ∙ r, refl);
                not_behind = rows-apart_w w.0 w.1;
                not_aside = rows-apart_s w.0 w.1;
                own_w = refl;
                fields = λ u r. (refl, refl);
                links = λ p. refl;
                cuts = λ u r ne e. (ok.lead w.0 w.1).cut (own u) e;
              })));
          lengths = ok.lengths;
          empty = λ h. absurd (cc (at, h));
          calm = λ u h. stages u
              ∙ elim (waiter_cases u x) [
                | inl e ↦ ok.calm u (λ q. cc (ap phase e, q, moves.was))
                | inr ne ↦ ok.calm u (λ q. h (moves.others u ne ∙ q))
              ];
        }

  module _ {phase' : Waiter → Phase} {node' : NodeName → Node} {stage' : Waiter → Stage}
      {kept' : Waiter → Option NodeName} {x : Waiter} where
    -- row G5: the node that was met gets the own node as its next
    pub cna_link : {p : NodeName} {y : Node} → Moves phase phase' x (Links p) Waits
        → Rewrites node node' p y → y ≡ record (node p) { next = Some (own x) }
        → ((u : Waiter) → stage' u ≡ stage u) → ((u : Waiter) → u ≢ x → kept' u ≡ kept u)
        → Apart phase own
        → CnaAgrees tail phase' own node' local threshold stage' kept' main second passes
    cna_link {p} {y} moves writes store stages keeps apart =
        let c = front_cut own stage (slice_get main 0) in
        let out : (i : ℕ) → slice_get second i ≡ Some x → ⊥ =
        λ i h. cc ((ok.second_ok.waits i x h).0, moves.was) in
        let pm = part_moves second phase phase' x (Links p) Waits out moves in
        let px = ok.queue.members.place x (rw pm.was refl) in
        let j = not_first px.0 px.1 pm.was in
        let a = before_it j.0 j.1 in
        let ma = rows-main j.0 a.0 a.1 in
        let l = ok.queue.links.linking j.0 a.0 x p a.1 j.1 pm.was in
        let bare = shown_bare c node node' p (ap (λ n. (shown c node n).next) l.0 ∙ l.1) in
        let wr : Rewrites (shown c node) (shown c node') p y = record {
          now = bare.0 ∙ writes.now;
          others = λ n ne. shown_same c node node' n (writes.others n ne);
        } in
        let papart : Apart (part second phase) own =
        λ u z hu hz e. apart u z (parted_node u hu) (parted_node z hz) e in
        let q = queue_link_at ok.queue pm wr
        (ap (λ (n : Node). n.flag) (store) ∙ sym (shown_flag c node p))
        (ap (λ (n : Node). n.next) store) papart j.0 a.0 a.1 j.1 in
        let st : stage' ≡ stage = (λ i u. stages u i) in
        let field : (u : Waiter)
        → ((node' (own u)).runs ≡ (node (own u)).runs)
        × ((node' (own u)).second_tail ≡ (node (own u)).second_tail)
        × ((node' (own u)).flag ≡ (node (own u)).flag) =
        λ u. elim (node_cases (own u) p) [
          | inl e ↦ let f : node' (own u) ≡ record (node (own u)) { next = Some (own x) } =
              ap node' e
              ∙ writes.now ∙ store ∙ ap (λ n. record (node n) { next = Some (own x) }) (sym e) in (
                ap (λ (n : Node). n.runs) f,
                ap (λ (n : Node). n.second_tail) f,
                ap (λ (n : Node). n.flag) f,
              )
          | inr ne ↦ let f = writes.others (own u) ne in (
            ap (λ (n : Node). n.runs) f,
            ap (λ (n : Node). n.second_tail) f,
            ap (λ (n : Node). n.flag) f,
          )
        ] in
        record {
          queue = rw st q;
          second_ok = rw st (second_keep ok.second_ok
              (λ i u h. let ne : u ≢ x = (λ e. out i (h ∙ ap (λ z. Some z) e)) in
              let r = ok.second_ok.waits i u h in
              let no : own u ≢ p =
              (λ e. let s : u ≡ a.0 = apart u a.0 (rw r.0 refl) ma.3 (e ∙ l.0) in
              not_in second a.0 ma.1 i (h ∙ ap (λ z. Some z) s)) in
              (moves.others u ne, refl, writes.others (own u) no)));
          moved = ok.moved;
          lead = λ w h.
              let m = rows-main 0 w h in
              let nx : w ≢ x = (λ e. let f = ok.queue.ends.first w h in let z = ap phase e in
              cc (f, m.0, z, moves.was)) in
              rw (st, moves.others w nx, keeps w nx, (field w).2)
              (lead_keep (ok.lead w h) ok.second_ok (record {
                queued = m.2;
                grows = λ i u g. g;
                waits = λ u r ne.
                    let nu : u ≢ x = (λ e. let z = ap phase e in cc (z, r, moves.was)) in
                    (moves.others u nu ∙ r, refl);
                not_behind = rows-apart_w w h;
                not_aside = rows-apart_s w h;
                own_w = refl;
                fields = λ u r. ((field u).0, (field u).1);
                links = λ pk.
                    let cw : front_cut own stage (slice_get main 0) ≡ cut_of (own w) (stage w) =
                    rw h refl in
                    let s = cut-picks (own w) (stage w) pk in
                    let no : own w ≢ p = (λ f.
                    let d : c ≡ Some (own w, s.0) = cw ∙ s.1 in
                    let g : (shown c node p).next ≡ Some s.0 = ap (λ o. (shown o node p).next) d
                    ∙ ap (λ (n : Node). n.next) (shown_at (own w) s.0 node p (sym f)) in
                    let k : (shown c node p).next ≡ None =
                    ap (λ n. (shown c node n).next) l.0 ∙ l.1 in
                    cc (g, k)) in
                    ap (λ (n : Node). n.next) (writes.others (own w) no);
                cuts = λ u r ne e. let b = own u in
                    let cw : front_cut own stage (slice_get main 0) ≡ cut_of (own w) (stage w) =
                    rw h refl in
                    let s = cut-of (own w) (stage w) b e in
                    let no : b ≢ p = (λ f.
                    let d : c ≡ Some (b, s.0) = cw ∙ s.1 in
                    let g : (shown c node p).next ≡ Some s.0 = ap (λ o. (shown o node p).next) d
                    ∙ ap (λ (n : Node). n.next) (shown_at b s.0 node p (sym f)) in
                    let k : (shown c node p).next ≡ None =
                    ap (λ n. (shown c node n).next) l.0 ∙ l.1 in
                    cc (g, k)) in
                    ap (λ (n : Node). n.next) (writes.others b no) ∙ (ok.lead w h).cut b e;
              }));
          lengths = ok.lengths;
          empty = ok.empty;
          calm = λ u h. stages u
              ∙ elim (waiter_cases u x) [
                | inl e ↦ ok.calm u (λ q. cc (ap phase e, q, moves.was))
                | inr ne ↦ ok.calm u (λ q. h (moves.others u ne ∙ q))
              ];
        }
      where
        not_first : (i : ℕ) → slice_get main i ≡ Some x → part second phase x ≡ Links p
            → (j : ℕ) × (slice_get main (suc j) ≡ Some x)
        not_first zero h was = absurd (let f = ok.queue.ends.first x h in cc (f, was))
        not_first (suc j) h was = (j, h)

        before_it : (j : ℕ) → slice_get main (suc j) ≡ Some x
            → (a : Waiter) × (slice_get main j ≡ Some a)
        before_it j h = get_below main j (suc j) x h (omega arith)

        parted_node : (u : Waiter) → has_node (part second phase u) ≡ true
            → has_node (phase u) ≡ true
        parted_node u h =
            elim (part_cases second phase u) [
              | inl q ↦ rw (ok.second_ok.waits q.0 u q.1).0 refl
              | inr q ↦ ap has_node (sym q.0) ∙ h
            ]

        cut-of : (n : NodeName) (g : Stage) (b : NodeName) → parted g ≡ Some b
            → (y : NodeName) × (cut_of n g ≡ Some (b, y))
        cut-of n (Cuts a d k y) b h = let e : d ≡ b = cc h in (y, ap (λ z. Some (z, y)) e)
        cut-of n (Hangs a d k y) b h = let e : d ≡ b = cc h in (y, ap (λ z. Some (z, y)) e)
        cut-of n (Counts a d k y) b h = let e : d ≡ b = cc h in (y, ap (λ z. Some (z, y)) e)
        cut-of n _ b h = cc h

        cut-picks : (n : NodeName) (g : Stage) → picks g ≡ true
            → (y : NodeName) × (cut_of n g ≡ Some (n, y))
        cut-picks n (Picks y) h = (y, refl)
        cut-picks n (Picked y) h = (y, refl)
        cut-picks n _ h = cc h

  module _ {phase' : Waiter → Phase} {stage' : Waiter → Stage} {kept' : Waiter → Option NodeName}
      {x : Waiter} where
    -- rows G6 to G9: the one that leads moves on
    pub cna_lead : {r r' : Phase}
        → GoesAhead phase phase' own node stage stage' kept kept' main x r r'
        → CnaAgrees tail phase' own node local threshold stage' kept' main second passes
    cna_lead {r} {r'} step =
        let m = rows-main 0 x step.front in
        let out : (i : ℕ) → slice_get second i ≡ Some x → ⊥ = not_in second x m.1 in
        let pm = part_moves second phase phase' x r r' out step.moves in
        let c = front_cut own stage (slice_get main 0) in
        let st : stage' ≡ stage = (λ i u. step.stages u i) in
        let f = ok.queue.ends.first x step.front in
        let lead0 : leads r ((shown c node (own x)).flag) ≡ true = rw pm.was at f in
        let lead1 : leads r' ((shown c node (own x)).flag) ≡ true =
        rw (shown_flag c node (own x)) step.leads_on in
        record {
          queue =
              rw st (queue_lead ok.queue pm lead0 lead1 step.not_waits
              (λ n e. absurd (step.not_hands n e)));
          second_ok = rw st (second_keep ok.second_ok
              (λ i u h. let ne : u ≢ x = (λ e. out i (h ∙ ap (λ z. Some z) e)) in
              (step.moves.others u ne, refl, refl)));
          moved = ok.moved;
          lead = λ w h.
              let e : x ≡ w = cc (step.front, h) in
              let P : Waiter → Type 0 =
              λ z. FrontAgrees phase' own node local threshold main second passes z (stage' z)
              (named_by (phase' z) ((node (own z)).flag) (kept' z)) in
              subst P e (rw (st, step.moves.now, step.names)
              (let Q : Phase → Type 0 =
              λ z. FrontAgrees phase' own node local threshold main second passes x (stage x)
              (named_by z ((node (own x)).flag) (kept x)) in
              subst Q step.moves.was (lead_keep (ok.lead x step.front) ok.second_ok (record {
                queued = m.2;
                grows = λ i u g. g;
                waits = λ u r ne. (step.moves.others u ne ∙ r, refl);
                not_behind = rows-apart_w x step.front;
                not_aside = rows-apart_s x step.front;
                own_w = refl;
                fields = λ u r. (refl, refl);
                links = λ p. refl;
                cuts = λ u r ne e. (ok.lead x step.front).cut (own u) e;
              }))));
          lengths = ok.lengths;
          empty = ok.empty;
          calm = λ u h. step.stages u
              ∙ elim (waiter_cases u x) [
                | inl e ↦ ap stage e ∙ step.rests
                | inr ne ↦ ok.calm u (λ q. h (step.moves.others u ne ∙ q))
              ];
        }

  module _ {phase' : Waiter → Phase} {own' : Waiter → NodeName} {node' : NodeName → Node}
      {stage' : Waiter → Stage} {kept' : Waiter → Option NodeName} where
    -- nothing changes that the lock's lists read
    pub cna_keep : ((u : Waiter) → queues (phase u) ≡ true
        → (phase' u ≡ phase u) × (own' u ≡ own u) × (node' (own' u) ≡ node (own u))
        × (stage' u ≡ stage u) × (kept' u ≡ kept u))
        → ((u : Waiter) → queues (phase' u) ≡ true → phase' u ≡ phase u)
        → ((u : Waiter) → phase' u ≡ Prepared → node' (own' u) ≡ rest_node)
        → ((u : Waiter) → phase' u ≢ Holds → stage' u ≡ Rests)
        → Apart phase own
        → ((u : Waiter) → phase' u ≡ Prepared → (z : Waiter) → queues (phase z) ≡ true
        → own' u ≢ own z)
        → CnaAgrees tail phase' own' node' local threshold stage' kept' main second passes
    cna_keep same back new calm apart fresh =
        let sm : (i : ℕ) (u : Waiter) → slice_get main i ≡ Some u
        → (phase' u ≡ phase u) × (own' u ≡ own u) × (node' (own' u) ≡ node (own u))
        × (stage' u ≡ stage u) × (kept' u ≡ kept u) =
        λ i u h. same u (rows-main i u h).2 in
        let c = front_cut own stage (slice_get main 0) in
        let c' = front_cut own' stage' (slice_get main 0) in
        let ce : c' ≡ c = elim (get_cases main 0) [
          | inl n ↦ rw n refl
          | inr p ↦ rw p.1 (let s = sm 0 p.0 p.1 in rw (s.1, s.3) refl)
        ] in
        let te : front_tip stage' (slice_get main 0) ≡ front_tip stage (slice_get main 0) =
        elim (get_cases main 0) [
          | inl n ↦ rw n refl
          | inr p ↦ rw p.1 (let s = sm 0 p.0 p.1 in rw s.3 refl)
        ] in
        let pq : (u : Waiter) → queues (part second phase u) ≡ true
        → (part second phase' u ≡ part second phase u) × (own' u ≡ own u)
        × (shown c node' (own' u) ≡ shown c node (own u)) =
        λ u h. let p = part_out second phase u h in
        let q : queues (phase u) ≡ true = ap queues (sym p.0) ∙ h in let s = same u q in
        let po : part second phase' u ≡ phase' u =
        outside_part second phase' u (not_in second u p.1) in (
          po ∙ s.0 ∙ sym p.0,
          s.1,
          rw s.1 (shown_same c node node' (own u) (ap node' (sym s.1) ∙ s.2)),
        ) in
        let pb : (u : Waiter) → queues (part second phase' u) ≡ true
        → part second phase' u ≡ part second phase u =
        λ u h. let p = part_out second phase' u h in
        let q : queues (phase' u) ≡ true = ap queues (sym p.0) ∙ h in
        p.0 ∙ back u q ∙ sym (outside_part second phase u (not_in second u p.1)) in
        let pf : (u : Waiter) → part second phase' u ≡ Prepared
        → shown c node' (own' u) ≡ rest_node =
        λ u h. elim (part_cases second phase' u) [
          | inl p ↦ absurd (cc (p.2, h))
          | inr p ↦ let r : phase' u ≡ Prepared = sym p.0 ∙ h in shown_rest (fresh u r) ∙ new u r
        ] in
        record {
          queue = rw ce (queue_keep ok.queue pq pb pf);
          second_ok = rw te (second_keep ok.second_ok
              (λ i u h. let s = same u (rw (ok.second_ok.waits i u h).0 refl) in (s.0, s.1, s.2)));
          moved = ok.moved;
          lead = λ w h.
              let s = sm 0 w h in
              let nf : (node' (own' w)).flag ≡ (node (own w)).flag =
              ap (λ (n : Node). n.flag) s.2 in
              rw (s.0, s.3, s.4, nf) (lead_keep (ok.lead w h) ok.second_ok (record {
                queued = (rows-main 0 w h).2;
                grows = λ i u g. g;
                waits = λ u r ne. let z = same u (rw r refl) in (z.0 ∙ r, z.1);
                not_behind = rows-apart_w w h;
                not_aside = rows-apart_s w h;
                own_w = s.1;
                fields = λ u r. let z = same u r in
                    let f : node' (own u) ≡ node (own u) = ap node' (sym z.1) ∙ z.2 in
                    (ap (λ (n : Node). n.runs) f, ap (λ (n : Node). n.second_tail) f);
                links = λ p. ap (λ m. (node' m).next) (sym s.1) ∙ ap (λ (n : Node). n.next) s.2;
                cuts = λ u r ne e. let z = same u (rw r refl) in
                    let f : node' (own u) ≡ node (own u) = ap node' (sym z.1) ∙ z.2 in
                    ap (λ (n : Node). n.next) f ∙ (ok.lead w h).cut (own u) e;
              }));
          lengths = ok.lengths;
          empty = ok.empty;
          calm = calm;
        }
      where
        cut-owner : (w : Waiter) → slice_get main 0 ≡ Some w → (g : Stage) → stage w ≡ g
            → (b y : NodeName) → cut_of (own w) g ≡ Some (b, y)
            → (z : Waiter) × (queues (phase z) ≡ true) × (own z ≡ b)
        cut-owner w h g e b y c =
            elim (which g c) [
              | inl q ↦ let f = parted-at (ok.lead w h) b (ap parted e ∙ q) in
                  (f.1, rw f.3 refl, f.4)
              | inr q ↦ (w, (rows-main 0 w h).2, q)
            ]
          where
            first : (d n : NodeName)
                → ◌≡◌ {A = Option (NodeName × NodeName)} (Some (d, n)) (Some (b, y)) → d ≡ b
            first d n h = let q : ◌≡◌ {A = NodeName × NodeName} (d, n) (b, y) = cc h in
                ap (λ (r : NodeName × NodeName). r.0) q

            which : (g : Stage) → cut_of (own w) g ≡ Some (b, y) → (parted g ≡ Some b) ⊎ (own w ≡ b)
            which (Cuts a d k n) c = inl (ap (λ z. Some z) (first d n c))
            which (Hangs a d k n) c = inl (ap (λ z. Some z) (first d n c))
            which (Counts a d k n) c = inl (ap (λ z. Some z) (first d n c))
            which (Picks n) c = inr (first (own w) n c)
            which (Picked n) c = inr (first (own w) n c)
            which _ c = cc c

        shown_rest : {n : NodeName} → ((z : Waiter) → queues (phase z) ≡ true → n ≢ own z)
            → shown (front_cut own stage (slice_get main 0)) node' n ≡ node' n
        shown_rest {n} out =
            elim (get_cases main 0) [
              | inl e ↦ rw e refl
              | inr p ↦ rw p.1 (go p.0 p.1 (cut_of (own p.0) (stage p.0)) refl)
            ]
          where
            go : (w : Waiter) → slice_get main 0 ≡ Some w → (c : Option (NodeName × NodeName))
                → cut_of (own w) (stage w) ≡ c → shown c node' n ≡ node' n
            go w h None e = refl
            go w h (Some p) e = let f = cut-owner w h (stage w) refl p.0 p.1 e in
                shown_else p.0 p.1 node' n (λ q. out f.0 f.1 (q ∙ sym f.2))
