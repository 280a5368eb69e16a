-- The laws of the queue: a waiter arrives, links, leads, takes the lock, learns who is next and
-- hands the lead on.
use Rattle.std.proofs.Common.{◌≡◌, ◌≢◌, ℕ, Option, Some, None, Bool, true, false, List, ◌⊎◌, inl}
use Rattle.std.proofs.Common.{inr, arith, ap, refl, sym, ◌∙◌, [], ◌∷◌, ◌++◌}
use Rattle.lk_law.proofs.Names.{Fields, Locked, Free, Held, NodeName, LockHistory, told, Event}
use Rattle.lk_law.proofs.Names.{Head, Arrive, Pass, Take, LockName, Waiter, Flag, Go, Node}
use Rattle.lk_law.proofs.Names.{LeavesSlowPath, ParaAgrees, SnapshotAgrees, Stays, Step, halts}
use Rattle.lk_law.proofs.Names.{FlatAgrees, ListsAgree, moves_aside, named_by, Phase, claims}
use Rattle.lk_law.proofs.Names.{has_lock, has_node, leads, pends, stakes, watches, Hands, Holds}
use Rattle.lk_law.proofs.Names.{Idle, Leads, Links, Prepared, Releases, Stakes, Waits, NodesAgree}
use Rattle.lk_law.proofs.Names.{PendingAgrees, Rewrites, Snapshot, Stage, Rests}
use Rattle.lk_names.specs.declared.events.How.TheVariants.{Sole}
use Rattle.lk_law.proofs.{cna.Steps.ChoosesNothing, common.Before.nodes_apart}
use Rattle.lk_law.proofs.common.Cases.{Apart, waiter_cases}
use Rattle.lk_law.proofs.common.Families.{lists_front, lists_met, lists_first, lists_behind}
use Rattle.lk_law.proofs.common.Families.{lists_link, lists_lead, lists_sole}
use Rattle.lk_law.proofs.common.Frame.{nodes_stay, nodes_leave, agrees_after, ActsAlone, no_posts}
use Rattle.lk_law.proofs.common.Told.{told_lock, told_others, sole_taken}
use Rattle.lk_law.proofs.{queue.Lead.{queue_lead, lead_first, second_is}, queue.Pass.queue_pass}
use Rattle.lk_law.proofs.{spin.Hold.{hold_keep, hold_take}, spin.Laws.{SameNodes, claim_cases}}
use Rattle.lk_law.proofs.spin.Pend.{pend_keep, pend_still, pend_stake}

-- each waiter's node is the one that it had
pub own_is : {s s' : Snapshot} {w : Waiter} → Stays s s' w
    → ((u : Waiter) → u ≢ w → s'.own u ≡ s.own u) → s'.own ≡ s.own
own_is {s = s} {s' = s'} {w = w} stays owns = (λ i u. same u i)
  where
    same : (u : Waiter) → s'.own u ≡ s.own u
    same u = elim (waiter_cases u w) [
      | inl e ↦ ap s'.own e ∙ stays.own ∙ ap s.own (sym e)
      | inr ne ↦ owns u ne
    ]

pub node_is : {f g : NodeName → Node} → ((n : NodeName) → g n ≡ f n) → g ≡ f
node_is nodes = (λ i n. nodes n i)

stakes_is : (r : Phase) → stakes r ≡ true → r ≡ Stakes
stakes_is r p = grind arith

module _ {phase : LockName → Waiter → Phase} {own : Waiter → NodeName} {slow : Waiter → Bool}
    {queued : ℕ → ℕ} (nodes : NodesAgree phase own slow queued) where
  -- two waiters of one lock with one node are one
  pub apart_on : (l : LockName) → Apart (phase l) own
  apart_on l u v p q e = nodes_apart nodes l l u v p q e

  -- the node of a waiter of the lock l is none of a waiter of another lock
  pub rewrite_here : ActsAlone phase
      → {node node' : NodeName → Node} {l : LockName} {n : NodeName} {y : Node} (a : Waiter)
      → has_node (phase l a) ≡ true → n ≡ own a → Rewrites node node' n y
      → (k : LockName) (u : Waiter) → k ≢ l → has_node (phase k u) ≡ true
      → node' (own u) ≡ node (own u)
  rewrite_here alone {l = l} a p m writes k u ne q =
      writes.others (own u) (λ e.
      let same : u ≡ a = nodes_apart nodes k l u a q p (e ∙ m) in
      let b : phase k u ≡ Idle =
      alone l k u (λ d. ne (sym d)) (λ d. grind (arith, ap (phase l) same)) in
      grind (arith, b))

-- who does not hold the lock as the front after its row chooses nothing
pub chooses_nothing : {s s' : Snapshot} {w : Waiter} {l : LockName} {r r' : Phase} {x : Fields}
    {h h' : Bool}
    → Step s s' w l r r' x h h'
    → r' ≢ Holds
    → ChoosesNothing (s.stage l) (s'.stage l) s.kept s'.kept w
chooses_nothing {l = l} step off =
    record { stages = step.stages l; rests = step.rests off; keeps = step.kepts }

-- where a waiter leads the queue of the free lock, no other may take it in its next step
stakes_alone : {locked : Locked} {pending aside : Bool} {tail : Option NodeName}
    {phase : Waiter → Phase} {own : Waiter → NodeName} {node : NodeName → Node}
    {local : Waiter → Waiter → Bool}
    {threshold : ℕ} {stage : Waiter → Stage} {kept : Waiter
    → Option NodeName} {main second : List Waiter} {passes : List ℕ}
    → PendingAgrees locked pending phase
    → ListsAgree aside tail phase own node local threshold stage kept main second passes
    → (w : Waiter) → phase w ≡ Stakes
    → (u : Waiter) → u ≢ w → claims (phase u) ≡ true → ⊥
stakes_alone {phase = phase} p q w was u ne c =
    elim (claim_cases (phase u) c) [
      | inl a ↦ p.apart u w a.0 (grind (arith, was))
      | inr b ↦
          let z = lists_front q u (grind (arith, stakes_is (phase u) b.0)) in
          let y = lists_front q w (grind (arith, was)) in
          ne (grind arith)
    ]

-- the phase has nothing to do with the pending bit, and neither has nor claims nor releases the
-- lock
record IsUninvolved (r : Phase) : Type 0 where
  clear : pends r ≡ false
  far : watches r ≡ false
  low : claims r ≡ false
  lacks : has_lock r false ≡ false
  keeps : r ≢ Releases

arrives_plain : (r : Phase) (p : NodeName) → (r ≡ Leads) ⊎ (r ≡ Links p) → IsUninvolved r
arrives_plain r p way =
    record {
      clear = grind (arith, way);
      far = grind (arith, way);
      low = grind (arith, way);
      lacks = grind (arith, way);
      keeps = λ e. grind (arith, way, e);
    }

-- the front goes on from r to r', and knows no next
record GoesOn (r r' : Phase) (f : Flag) : Type 0 where
  noded : has_node r ≡ true
  lacks : has_lock r' false ≡ has_lock r false
  keeps : r' ≢ Releases
  sees : r' ≢ Waits
  leading : leads r' f ≡ true
  hands : (n : NodeName) → r' ≢ Hands n
  was_clear : pends r ≡ false
  now_clear : pends r' ≡ false
  off : r ≢ Holds
  choosing : r' ≢ Holds

goes_on : (r r' : Phase) (f : Flag) → ((r' ≡ Leads) × (r ≡ Waits)) ⊎ (r' ≡ Stakes) × (r ≡ Leads)
    → GoesOn r r' f
goes_on r r' f way =
    record {
      noded = grind (arith, way);
      lacks = grind (arith, way);
      keeps = λ e. grind (arith, way, e);
      sees = λ e. grind (arith, way, e);
      leading = grind (arith, way);
      hands = λ n e. grind (arith, way, e);
      was_clear = grind (arith, way);
      now_clear = grind (arith, way);
      off = λ e. grind (arith, way, e);
      choosing = λ e. grind (arith, way, e);
    }

-- where nobody is moved aside there is one queue
pub flat_lists : {aside : Bool} {tail : Option NodeName} {phase : Waiter → Phase}
    {own : Waiter → NodeName} {node : NodeName → Node} {local : Waiter → Waiter → Bool}
    {threshold : ℕ}
    {stage : Waiter → Stage} {kept : Waiter
    → Option NodeName} {main second : List Waiter} {passes : List ℕ} → aside ≡ false
    → FlatAgrees tail phase own node main second passes
    → ListsAgree aside tail phase own node local threshold stage kept main second passes
flat_lists plain o = record { flat = λ e. o; cna = λ e. absurd (grind (arith, plain, e)) }

module _ {s s' : Snapshot} {hs : LockName → LockHistory} {w : Waiter} {l : LockName}
    (ok : SnapshotAgrees s hs) where
  -- The tail is exchanged, and the waiter arrives: first in the queue, or behind the node that it
  -- met.
  pub law_arrive_as : {r' : Phase}
      → Step s s' w l Prepared r'
      (record {
        locked = (s.word l).locked;
        pending = (s.word l).pending;
        tail = Some (s.own w);
      }) false false
      → Stays s s' w → SameNodes s s' → s'.kept w ≡ None
      → ((s.word l).tail ≡ None) × (r' ≡ Leads) ⊎ (p : NodeName) × ((s.word l).tail ≡ Some p)
      × (r' ≡ Links p)
      → (halts s'.mode ≡ true → ParaAgrees s' (record (hs l) { main = (hs l).main ++ w ∷ [] }) l)
      → SnapshotAgrees s' (λ k. told k (hs k) (record { by = w; what = Arrive l }))
  law_arrive_as {r' = r'} step stays nodes none met posts =
      let o = ok.locks l in
      let e : Event = record { by = w; what = Arrive l } in
      let plain : IsUninvolved r' =
      elim met [
        | inl m ↦ arrives_plain r' (s.own w) (inl m.1)
        | inr m ↦ arrives_plain r' m.0 (inr m.2)
      ] in
      agrees_after step ok (λ k. told k (hs k) e) (nodes_stay step ok.nodes stays (λ p. refl))
      (λ k u ne p. nodes (s.own u)) (told_others hs e refl)
      (told_lock (hs l) e refl (record {
        holder = o.holder;
        holders = o.holders;
        hold =
            rw step.word (hold_keep o.hold step.acts step.holds plain.lacks (λ p. refl)
            (λ p. absurd (plain.keeps p)));
        pend = rw step.word (pend_still o.pend step.acts plain.clear plain.far plain.low);
        posts = posts;
        lists =
            rw (
              step.word,
              own_is stays step.owns,
              node_is nodes,
              step.mode,
              step.local,
              step.threshold,
            ) (elim met [
              | inl m ↦ lists_first o.lists step.acts
                  (chooses_nothing step (λ q. grind (arith, m.1, q)))
                  (λ q. grind arith) refl m.1 m.0
                  none
              | inr m ↦ lists_behind o.lists step.acts
                  (chooses_nothing step (λ q. grind (arith, m.2, q)))
                  (λ q. grind arith) refl m.2 m.1
            ]);
      }))

  -- The waiter's node is stored as the next of the node that it met.
  pub law_link_as : {p : NodeName} {y : Node} → Step s s' w l (Links p) Waits (s.word l) false false
      → Stays s s' w → Rewrites s.node s'.node p y → y ≡ record (s.node p) { next = Some (s.own w) }
      → (halts s'.mode ≡ true → ParaAgrees s' (hs l) l) → SnapshotAgrees s' hs
  law_link_as {p = p} step stays writes store posts =
      let o = ok.locks l in
      let a = lists_met o.lists w p step.acts.was in
      agrees_after step ok hs (nodes_stay step ok.nodes stays (λ q. refl))
      (rewrite_here ok.nodes ok.alone a.by a.noded a.owned writes) (λ k ne. refl)
      (record {
        holder = o.holder;
        holders = o.holders;
        hold =
            rw step.word (hold_keep o.hold step.acts step.holds refl (λ q. refl)
            (λ q. absurd (grind arith)));
        pend = rw step.word (pend_still o.pend step.acts refl refl refl);
        posts = posts;
        lists = rw (step.word, own_is stays step.owns, step.mode, step.local, step.threshold)
            (lists_link o.lists step.acts (chooses_nothing step (λ q. grind arith)) writes store
            (apart_on ok.nodes l));
      })

module _ {s s' : Snapshot} {hs : LockName → LockHistory} {w : Waiter} {l : LockName}
    (ok : SnapshotAgrees s hs) (awake : halts s.mode ≡ false) where
  -- The tail is exchanged, and the waiter arrives: first in the queue, or behind the node that it
  -- met.
  pub law_arrive : {r' : Phase}
      → Step s s' w l Prepared r'
      (record {
        locked = (s.word l).locked;
        pending = (s.word l).pending;
        tail = Some (s.own w);
      }) false false
      → Stays s s' w → SameNodes s s' → s'.kept w ≡ None
      → ((s.word l).tail ≡ None) × (r' ≡ Leads) ⊎ (p : NodeName) × ((s.word l).tail ≡ Some p)
      × (r' ≡ Links p)
      → SnapshotAgrees s' (λ k. told k (hs k) (record { by = w; what = Arrive l }))
  law_arrive step stays nodes none met =
      law_arrive_as ok step stays nodes none met (λ e. no_posts step awake e)

  -- The waiter's node is stored as the next of the node that it met.
  pub law_link : {p : NodeName} {y : Node} → Step s s' w l (Links p) Waits (s.word l) false false
      → Stays s s' w → Rewrites s.node s'.node p y → y ≡ record (s.node p) { next = Some (s.own w) }
      → SnapshotAgrees s' hs
  law_link step stays writes store =
      law_link_as ok step stays writes store (λ e. no_posts step awake e)

  -- The front goes on: it sees its flag, or sees the lock free.
  pub law_lead : {r r' : Phase} → Step s s' w l r r' (s.word l) false false → Stays s s' w
      → SameNodes s s' → leads r ((s.node (s.own w)).flag) ≡ true
      → named_by r' ((s.node (s.own w)).flag) (s'.kept w)
      ≡ named_by r ((s.node (s.own w)).flag) (s.kept w)
      → (r' ≡ Leads) × (r ≡ Waits) ⊎ (r' ≡ Stakes) × (r ≡ Leads) × ((s.word l).locked ≡ Free)
      × ((s.word l).pending ≡ false)
      → SnapshotAgrees s' hs
  law_lead {r = r} {r' = r'} step stays nodes lead named way =
      let o = ok.locks l in
      let on : GoesOn r r' (s.node (s.own w)).flag =
      goes_on r r' (s.node (s.own w)).flag
      (elim way [ inl m ↦ inl m | inr m ↦ inr (m.0, m.1) ]) in
      agrees_after step ok hs (nodes_stay step ok.nodes stays (λ q. on.noded))
      (λ k u ne p. nodes (s.own u)) (λ k ne. refl)
      (record {
        holder = o.holder;
        holders = o.holders;
        hold =
            rw step.word (hold_keep o.hold step.acts step.holds on.lacks (λ q. refl)
            (λ q. absurd (on.keeps q)));
        pend = rw step.word (elim way [
          | inl m ↦ pend_still o.pend step.acts (on.now_clear ∙ sym on.was_clear) (grind (arith, m))
              (grind (arith, m))
          | inr m ↦ pend_stake o.pend step.acts m.3 m.2 on.was_clear on.now_clear
        ]);
        posts = no_posts step awake;
        lists = rw (
          step.word,
          own_is stays step.owns,
          node_is nodes,
          step.mode,
          step.local,
          step.threshold,
        )
            (lists_lead o.lists step.acts (chooses_nothing step on.choosing) on.off
            lead on.leading on.sees on.hands named);
      })

  -- The front takes the lock, and stays the front.
  pub law_head : Step s s' w l Stakes Holds
      (record { locked = Held; pending = (s.word l).pending; tail = (s.word l).tail }) false false
      → Stays s s' w → SameNodes s s' → s'.stage l w ≡ Rests → s'.kept w ≡ s.kept w
      → SnapshotAgrees s' (λ k. told k (hs k) (record { by = w; what = Take l Head }))
  law_head step stays nodes rests kept =
      let o = ok.locks l in
      let e : Event = record { by = w; what = Take l Head } in
      let free = o.pend.free w (grind (arith, step.acts.was)) in
      agrees_after step ok (λ k. told k (hs k) e) (nodes_stay step ok.nodes stays (λ q. refl))
      (λ k u ne p. nodes (s.own u)) (told_others hs e refl)
      (told_lock (hs l) e refl (record {
        holder = Some w;
        holders = sole_taken (hs l) w o.holder o.holders (o.hold.free free);
        hold =
            rw step.word (hold_take o.hold step.acts step.holds free refl (λ q. refl)
            (λ q. absurd (grind arith)));
        pend =
            rw step.word (pend_keep o.pend step.acts Held refl (λ q. absurd (grind arith)) refl
            (λ q. refl)
            (λ u n q. absurd (stakes_alone o.pend o.lists w step.acts.was u n q)));
        posts = no_posts step awake;
        lists = rw (
          step.word,
          own_is stays step.owns,
          node_is nodes,
          step.mode,
          step.local,
          step.threshold,
        )
            (lists_lead o.lists step.acts
            (record { stages = step.stages l; rests = rests; keeps = step.kepts })
            (λ q. grind arith) refl refl (λ q. grind arith) (λ n q. absurd (grind arith)) kept);
      }))

  -- The front learns the node behind its own.
  pub law_know : {n : NodeName} → moves_aside s.mode ≡ false
      → Step s s' w l Holds (Hands n) (s.word l) false false → Stays s s' w → SameNodes s s'
      → (s.node (s.own w)).next ≡ Some n → SnapshotAgrees s' hs
  law_know {n = n} plain step stays nodes next =
      let o = ok.locks l in
      let flat = o.lists.flat plain in
      let first = lead_first flat.queue w (grind (arith, step.acts.was)) in
      agrees_after step ok hs (nodes_stay step ok.nodes stays (λ q. refl))
      (λ k u ne p. nodes (s.own u)) (λ k ne. refl)
      (record {
        holder = o.holder;
        holders = o.holders;
        hold =
            rw step.word (hold_keep o.hold step.acts step.holds refl (λ q. refl)
            (λ q. absurd (grind arith)));
        pend = rw step.word (pend_still o.pend step.acts refl refl refl);
        posts = no_posts step awake;
        lists = flat_lists (ap moves_aside step.mode ∙ plain) (record {
          queue =
              rw (step.word, own_is stays step.owns, node_is nodes)
              (queue_lead flat.queue step.acts refl refl (λ q. grind arith)
              (λ m q. let r = second_is flat.queue w n first next in
              (r.0, r.1, r.2, grind (arith, r.3, q))));
          single = flat.single;
          unpassed = flat.unpassed;
        });
      })

  -- The front hands the lead to the next, and leaves.
  pub law_pass : {n : NodeName} {y : Node} (to : Waiter) → moves_aside s.mode ≡ false
      → Step s s' w l (Hands n) Idle (s.word l) false true → LeavesSlowPath s s' w
      → Rewrites s.node s'.node n y → y.flag ≡ Go → y.next ≡ (s.node n).next
      → SnapshotAgrees s' (λ k. told k (hs k) (record { by = w; what = Pass l to 0 }))
  law_pass {n = n} to plain step goes writes flag next =
      let o = ok.locks l in
      let e : Event = record { by = w; what = Pass l to 0 } in
      let flat = o.lists.flat plain in
      let v = flat.queue.links.hand w n step.acts.was in
      let vn : has_node (s.phase l v.0) ≡ true = grind (arith, v) in
      agrees_after step ok (λ k. told k (hs k) e) (nodes_leave step ok.nodes goes refl)
      (rewrite_here ok.nodes ok.alone v.0 vn (sym v.3) writes) (told_others hs e refl)
      (told_lock (hs l) e refl (record {
        holder = o.holder;
        holders = o.holders;
        hold =
            rw step.word (hold_keep o.hold step.acts step.holds refl (λ q. absurd (grind arith))
            (λ q. absurd (grind arith)));
        pend = rw step.word (pend_still o.pend step.acts refl refl refl);
        posts = no_posts step awake;
        lists = flat_lists (ap moves_aside step.mode ∙ plain) (record {
          queue =
              rw step.word (queue_pass flat.queue step.acts writes flag next step.owns
              (apart_on ok.nodes l));
          single = rw flat.single;
          unpassed = rw flat.unpassed;
        });
      }))

  -- The only waiter of the queue takes the lock, and leaves.
  pub law_sole : Step s s' w l Stakes Idle (record { locked = Held; pending = false; tail = None })
      false true
      → LeavesSlowPath s s' w → SameNodes s s' → s.kept w ≡ None
      → s.word l ≡ record { locked = Free; pending = false; tail = Some (s.own w) }
      → SnapshotAgrees s' (λ k. told k (hs k) (record { by = w; what = Take l Sole }))
  law_sole step goes nodes none met =
      let o = ok.locks l in
      let e : Event = record { by = w; what = Take l Sole } in
      agrees_after step ok (λ k. told k (hs k) e) (nodes_leave step ok.nodes goes refl)
      (λ k u ne p. nodes (s.own u)) (told_others hs e refl)
      (told_lock (hs l) e refl (record {
        holder = Some w;
        holders =
            sole_taken (hs l) w o.holder o.holders
            (o.hold.free (ap (λ (f : Fields). f.locked) met));
        hold = rw step.word
            (hold_take o.hold step.acts step.holds (ap (λ (f : Fields). f.locked) met) refl
            (λ q. absurd (grind arith)) (λ q. absurd (grind arith)));
        pend = rw step.word
            (rw met at (pend_keep o.pend step.acts Held refl (λ q. absurd (grind arith)) refl
            (λ q. absurd (grind arith))
            (λ u m q. absurd (stakes_alone o.pend o.lists w step.acts.was u m q))));
        posts = no_posts step awake;
        lists = rw (step.word, node_is nodes, step.mode, step.local, step.threshold)
            (lists_sole o.lists step.acts (chooses_nothing step (λ q. grind arith))
            (record {
              lead = refl;
              off = λ q. grind arith;
              mine = ap (λ (f : Fields). f.tail) met;
              nobody = none;
            }) step.owns (apart_on ok.nodes l));
      }))
