-- What is stored into a node that nobody uses; and which nodes are used.
use Rattle.std.proofs.Common.{◌≡◌, ◌≢◌, inl, inr, Option, Some, true, false, arith, ap, refl, sym}
use Rattle.std.proofs.Common.{◌∙◌, subst, slice_get, is_some, ◌≤◌}
use Rattle.lk_law.proofs.Names.{cases_lt, NodeName, LockHistory, LockName, Waiter, node_of, Second}
use Rattle.lk_law.proofs.Names.{Frame, Node, Pc, E14, G10, LockAgrees, Owed, node_state, IsOwnNode}
use Rattle.lk_law.proofs.Names.{Phase, has_node, queues, Prepared, own_in, phase_if, phase_on}
use Rattle.lk_law.proofs.Names.{slow_in, snapshot, Uses, Snapshot, before, same_node, spin_part}
use Rattle.lk_law.proofs.Names.{IsSoundSpinWorld, put_node, World}
use Rattle.lk_law.proofs.common.Before.{before_lt, nodes_apart}
use Rattle.lk_law.proofs.common.Families.{lists_keep, lists_rest, lists_met, lists_front}
use Rattle.lk_law.proofs.{common.Families.lists_main, common.Frame.queue_node}
use Rattle.lk_law.proofs.common.Puts.{if-false, if_cases, same_node-else}
use Rattle.lk_law.proofs.common.Users.{user_of, own_node, used_noded, used_own}
use Rattle.lk_law.proofs.{common.Worlds.phase_on-here, pv.Keep.{pv_keep, agrees-noded}}
use Rattle.lk_law.proofs.{pv.Laws.halts_flat, queue.Lead.second_is}
use Rattle.lk_law.specs.Halting.{HaltingLinkIsUsed}
use Rattle.lk_law.specs.Nodes.{IsFree, IsPlainNode, FreeNodeKeeps, FreshIsFree, PrevIsUsed}
use Rattle.lk_law.specs.Nodes.{LinkIsUsed}

prepared_node : (r : Phase) → r ≡ Prepared → has_node r ≡ true
prepared_node r h = grind arith

module _ (m : World) (hs : LockName → LockHistory) (n : NodeName) (x : Node)
    (ok : IsSoundSpinWorld m hs) (free : IsFree m n)
    (plain : IsPlainNode m x) where
  abbrev s : Snapshot
  s = snapshot m

  abbrev s' : Snapshot
  s' = snapshot (put_node m n x)

  -- who has a node finds it as it was
  others : (l : LockName) (u : Waiter) → has_node (s.phase l u) ≡ true
      → s'.node (s.own u) ≡ s.node (s.own u)
  others l u noded =
      if-false (same_node (s.own u) n) x (m.node (s.own u))
      (same_node-else (s.own u) n (λ e. free u (subst (Uses m u) e (user_of ok l u noded))))

  -- a node that is prepared is not one of the queue
  fresh : (l : LockName) (u : Waiter) → s.phase l u ≡ Prepared → (z : Waiter)
      → queues (s.phase l z) ≡ true → s.own u ≢ s.own z
  fresh l u p z q e =
      let same : u ≡ z = nodes_apart ok.agrees.nodes l l u z (prepared_node (s.phase l u) p)
      (queue_node (s.phase l z) q) e in
      grind (arith, ap (s.phase l) same, p, q)

  lock_keeps : (l : LockName) → LockAgrees s' (hs l) l
  lock_keeps l =
      let o = ok.agrees.locks l in
      record {
        holder = o.holder;
        holders = o.holders;
        hold = o.hold;
        pend = o.pend;
        posts = λ on. let a = o.posts on in
            record {
              posts = pv_keep (s.word l).locked (s.entry l) (slice_get (hs l).main 0) (s.post l)
                  (node_state s) (node_state s') s.own s.own (λ u. Owed s u.cpu) (λ u. Owed s u.cpu) a.posts
                  (λ u q. (
                    ap (λ (y : Node). y.state)
                        (others l u (agrees-noded (s.post l u) (s.phase l u) (a.suits u) q)),
                    refl,
                  ))
                  (λ z q. (
                    ap (λ (y : Node). y.state)
                        (others l z (queue_node (s.phase l z) (lists_main o.lists 0 z q))),
                    refl,
                  ))
                  (λ z q d. d);
              suits = a.suits;
            };
        lists = lists_keep o.lists {phase' = s.phase l} {own' = s.own} {node' = s'.node}
            {stage' = s.stage l} {kept' = s.kept}
            (λ u q. (refl, refl, others l u (queue_node (s.phase l u) q), refl, refl))
            (λ u q. refl)
            (λ u p. others l u (prepared_node (s.phase l u) p) ∙ lists_rest o.lists u p)
            (λ was u p. was u p)
            (λ u z p q e. nodes_apart ok.agrees.nodes l l u z p q e)
            (fresh l);
      }

  spin_free_node_keeps : IsSoundSpinWorld (put_node m n x) hs
  spin_free_node_keeps =
      record {
        plain = record {
          byte = ok.plain.byte;
          flag = λ flat a k. if_cases (λ (y : Node). y.flag ≢ Second k) (same_node a n) x (m.node a)
              (λ _. plain.1 flat k) (λ _. ok.plain.flag flat a k);
          runs = λ a. if_cases (λ (y : Node). y.runs ≤ m.threshold) (same_node a n) x (m.node a)
              (λ _. plain.0) (λ _. ok.plain.runs a);
        };
        turning = ok.turning;
        agrees = record {
          locks = lock_keeps;
          nodes = ok.agrees.nodes;
          alone = ok.agrees.alone;
          sleeper = ok.agrees.sleeper;
        };
        registers = ok.registers;
        asleep = ok.asleep;
        resting = ok.resting;
      }

pub free_node_keeps : FreeNodeKeeps
free_node_keeps m hs n x ok free plain =
    record {
      spins = spin_free_node_keeps m (spin_part m.kind hs) n x ok.spins free plain;
      rws = ok.rws;
      fits = ok.fits;
    }

pub fresh_is_free : FreshIsFree
fresh_is_free m hs p ok low u uses =
    let s = snapshot m in
    let n : NodeName = record { cpu = p; index = m.queued p } in
    let l = uses.0.lock in
    let noded = used_noded ok u n uses in
    let own = used_own ok u n uses in
    let placed = ok.agrees.nodes.placed l u noded in
    let slow : s.slow u ≡ true = ok.agrees.nodes.slowly l u noded in
    let cpus : u.cpu ≡ p = ap (λ (k : NodeName). k.cpu) (sym placed ∙ own) in
    let count : before s.slow u.cpu u.ctx ≡ m.queued p = ap (λ (k : NodeName). k.index) (sym placed ∙ own) in
    let count' : before s.slow p u.ctx ≡ m.queued p = rw cpus at count in
    let all : m.queued p ≡ before s.slow p 6 = ok.agrees.nodes.counted p in
    let is : u ≡ record { cpu = p; ctx = u.ctx } = (λ i. record { cpu = cpus i; ctx = u.ctx }) in
    let slow' : s.slow (record { cpu = p; ctx = u.ctx }) ≡ true = ap s.slow (sym is) ∙ slow in
    elim (cases_lt u.ctx 6) [
      | inl lt ↦ let z = before_lt s.slow p u.ctx 6 slow' lt in absurd (omega arith)
      | inr ge ↦ let none : s.slow (record { cpu = p; ctx = u.ctx }) ≡ false = ap slow_in (low u.ctx ge) in
          absurd (grind (arith, none, slow'))
    ]

module _ {m : World} {hs : LockName → LockHistory} {w : Waiter} {f : Frame} {c : Pc}
    (ok : IsSoundSpinWorld m hs) (live : m.frame w ≡ Some f) (place : f.place ≡ Some c) where
  -- the phase of the frame at its lock
  pub here : (snapshot m).phase f.lock w
      ≡ phase_if (Some c) (is_some f.me) (node_of f.prev) (node_of f.y)
  here = ap (phase_on f.lock) live ∙ phase_on-here f.lock f refl
      ∙ ap (λ (o : Option Pc). phase_if o (is_some f.me) (node_of f.prev) (node_of f.y)) place

  -- the node of a waiter in the queue is used by it
  of_waiter : (n : NodeName) (u : Waiter) → has_node ((snapshot m).phase f.lock u) ≡ true
      → (snapshot m).own u ≡ n → (v : Waiter) × Uses m v n × IsOwnNode v n
  of_waiter n u noded is = (
    u,
    subst (Uses m u) is (user_of ok f.lock u noded),
    subst (IsOwnNode u) is (own_node ok f.lock u noded),
  )

pub prev_is_used : PrevIsUsed
prev_is_used m hs w f ok live place =
    let l = lists_met (ok.agrees.locks f.lock).lists w (node_of f.prev) (here ok live place) in
    of_waiter ok live place (node_of f.prev) l.by l.noded (sym l.owned)

pub link_is_used : LinkIsUsed
link_is_used m hs w f n ok live place linked =
    let s = snapshot m in
    let lists = (ok.agrees.locks f.lock).lists in
    let flat = lists.flat ((ok.registers w f live).choice.plainly G10 place refl) in
    let own : s.own w ≡ node_of f.me = ap own_in live in
    let first : slice_get (hs f.lock).main 0 ≡ Some w = lists_front lists w (let e = here ok live place in grind (arith, e)) in
    let next : (m.node (s.own w)).next ≡ Some n = ap (λ (k : NodeName). (m.node k).next) own ∙ linked in
    let v = second_is flat.queue w n first next in
    of_waiter ok live place n v.0 (ap has_node v.2) v.3

pub halting_link_is_used : HaltingLinkIsUsed
halting_link_is_used m hs w f n ok live place linked =
    let s = snapshot m in
    let lists = (ok.agrees.locks f.lock).lists in
    let flat = lists.flat (halts_flat m.mode ((ok.registers w f live).choice.halting E14 place refl)) in
    let own : s.own w ≡ node_of f.me = ap own_in live in
    let first : slice_get (hs f.lock).main 0 ≡ Some w = lists_front lists w (let e = here ok live place in grind (arith, e)) in
    let next : (m.node (s.own w)).next ≡ Some n = ap (λ (k : NodeName). (m.node k).next) own ∙ linked in
    let v = second_is flat.queue w n first next in
    of_waiter ok live place n v.0 (ap has_node v.2) v.3
