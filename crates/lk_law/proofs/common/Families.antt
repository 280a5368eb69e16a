-- The lists of a lock in each family: what both say of the queue, and how they are kept by the rows
-- that both have. The part of the families that move nobody aside is the queue's own lemma; that of
-- the others is the same lemma on what is shown of the queue.
use Rattle.std.proofs.Common.{◌≡◌, ◌≢◌, ℕ, zero, suc, Option, Some, None, Bool, true, List, [], ◌∷◌}
use Rattle.std.proofs.Common.{◌++◌, inl, inr, arith, ap, sym, ◌∙◌, subst, slice_get, drop}
use Rattle.lk_law.proofs.Names.{cases_Bool, NodeName, get-none_up, get_cases, last_cases, Waiter}
use Rattle.lk_law.proofs.Names.{rest_node, Node, CnaAgrees, FlatAgrees, ListsAgree, front_cut}
use Rattle.lk_law.proofs.Names.{named_by, part, shown, Phase, has_node, leads, queues, Hands, Holds}
use Rattle.lk_law.proofs.Names.{Idle, Leads, Links, Prepared, Waits, Moves, QueueAgrees, Rewrites}
use Rattle.lk_law.proofs.Names.{Stage, Rests}
use Rattle.lk_law.proofs.cna.Ends.{cna_first, cna_sole}
use Rattle.lk_law.proofs.cna.Parts.{part_cases, part_out, outside_part, shown_flag}
use Rattle.lk_law.proofs.cna.Rows.{cna_keep, cna_rest, cna_behind, cna_link, cna_lead, shown_bare}
use Rattle.lk_law.proofs.{cna.Steps.ChoosesNothing, common.Cases.{waiter_cases, Apart}}
use Rattle.lk_law.proofs.queue.Arrive.{arrive_first, arrive_behind, no_queue}
use Rattle.lk_law.proofs.{queue.Keep.queue_keep, queue.Lead.{queue_lead, lead_first}}
use Rattle.lk_law.proofs.{queue.Link.queue_link_at, queue.Sole.queue_sole}

pub queue_noded : (r : Phase) → queues r ≡ true → has_node r ≡ true
queue_noded r p = grind arith

-- who links stands behind another
pub links_behind : {tail : Option NodeName} {phase : Waiter → Phase} {own : Waiter → NodeName}
    {node : NodeName → Node} {main : List Waiter}
    → QueueAgrees tail phase own node main → (w : Waiter) (p : NodeName) → phase w ≡ Links p
    → (j : ℕ) × (a : Waiter) × (slice_get main j ≡ Some a) × (slice_get main (suc j) ≡ Some w)
links_behind {main = main} q w p was =
    let at = q.members.place w (grind (arith, was)) in go at.0 at.1
  where
    go : (i : ℕ) → slice_get main i ≡ Some w
        → (j : ℕ) × (a : Waiter) × (slice_get main j ≡ Some a) × (slice_get main (suc j) ≡ Some w)
    go zero h = absurd (grind (arith, q.ends.first w h, was))
    go (suc j) h = elim (get_cases main j) [
      | inl n ↦ absurd (grind (arith, get-none_up main j n))
      | inr a ↦ (j, a.0, a.1, h)
    ]

-- the node that a waiter met which will link: it is another's, and names no next
pub record MetNode (phase : Waiter → Phase) (own : Waiter → NodeName) (node : NodeName → Node)
    (p : NodeName) : Type 0 where
  pub by : Waiter
  pub noded : has_node (phase by) ≡ true
  pub owned : p ≡ own by
  pub next : (node p).next ≡ None

-- a waiter that stands in a queue, with this node
pub record Last (phase : Waiter → Phase) (own : Waiter → NodeName) (n : NodeName) : Type 0 where
  pub by : Waiter
  pub noded : has_node (phase by) ≡ true
  pub owned : own by ≡ n

module _ {aside : Bool} {tail : Option NodeName} {phase : Waiter → Phase} {own : Waiter → NodeName}
    {node : NodeName → Node} {local : Waiter → Waiter → Bool} {threshold : ℕ}
    {stage : Waiter → Stage} {kept : Waiter
    → Option NodeName} {main second : List Waiter} {passes : List ℕ}
    (ok : ListsAgree aside tail phase own node local threshold stage kept main second passes) where
  abbrev seen : NodeName → Node
  seen = shown (front_cut own stage (slice_get main 0)) node

  -- what both families say is proved of each
  by_family : {A : Type 0} → (FlatAgrees tail phase own node main second passes → A)
      → (CnaAgrees tail phase own node local threshold stage kept main second passes → A) → A
  by_family flat cna = elim (cases_Bool aside) [ inl e ↦ cna (ok.cna e) | inr e ↦ flat (ok.flat e) ]

  -- a node that nobody can reach is at rest
  pub lists_rest : (u : Waiter) → phase u ≡ Prepared → node (own u) ≡ rest_node
  lists_rest u f = by_family (λ o. o.queue.links.fresh u f) (λ o. cna_rest o u f)

  -- who leads is the front
  pub lists_front : (w : Waiter) → leads (phase w) ((node (own w)).flag) ≡ true
      → slice_get main 0 ≡ Some w
  lists_front w lead =
      by_family (λ o. lead_first o.queue w lead)
      (λ o. let p : part second phase w ≡ phase w =
      outside_part second phase w
      (λ i h. let a = o.second_ok.waits i w h in grind (arith, a, lead)) in
      lead_first o.queue w
      (rw (p, shown_flag (front_cut own stage (slice_get main 0)) node (own w)) lead))

  -- where there is no tail nobody stands in a queue
  pub lists_none : tail ≡ None → (u : Waiter) → queues (phase u) ≡ true → ⊥
  lists_none none u q =
      by_family (λ o.
      no_queue (subst (λ (t : Option NodeName). QueueAgrees t phase own node main) none o.queue) u
      q)
      (λ o. let empty : slice_get main 0 ≡ None =
      elim (last_cases main) [
        | inl e ↦ ap (λ xs. slice_get xs 0) e
        | inr p ↦ absurd (let e = o.queue.ends.tail_is p.0 p.1 p.2 p.3 in grind (arith, e, none))
      ] in
      elim (part_cases second phase u) [
        | inl p ↦ let e = ap (λ (us : List Waiter). slice_get us p.0) (o.empty empty) in
            grind (arith, p.1, e)
        | inr p ↦ no_queue
            (subst (λ (t : Option NodeName). QueueAgrees t (part second phase) own seen main) none
            o.queue) u (ap queues p.0 ∙ q)
      ])

  -- who stands in the main queue, or aside, is in a phase that does
  pub lists_main : (i : ℕ) (u : Waiter) → slice_get main i ≡ Some u → queues (phase u) ≡ true
  lists_main i u h =
      by_family (λ o. o.queue.members.inside i u h)
      (λ o.
      let q = o.queue.members.inside i u h in ap queues (sym (part_out second phase u q).0) ∙ q)

  pub lists_second : (i : ℕ) (u : Waiter) → slice_get second i ≡ Some u → queues (phase u) ≡ true
  lists_second i u h =
      by_family (λ o. let e = ap (λ (us : List Waiter). slice_get us i) o.single in
      grind (arith, h, e)) (λ o. ap queues (o.second_ok.waits i u h).0)

  -- the node that was met by a waiter that will link
  pub lists_met : (w : Waiter) (p : NodeName) → phase w ≡ Links p → MetNode phase own node p
  lists_met w p was =
      by_family
      (λ o. let b = links_behind o.queue w p was in
      let l = o.queue.links.linking b.0 b.1 w p b.2 b.3 was in
      record {
        by = b.1;
        noded = queue_noded (phase b.1) (o.queue.members.inside b.0 b.1 b.2);
        owned = l.0;
        next = ap (λ (n : NodeName). (node n).next) l.0 ∙ l.1;
      })
      (λ o. let here : part second phase w ≡ Links p =
      outside_part second phase w (λ i h. grind (arith, (o.second_ok.waits i w h).0, was))
      ∙ was in
      let b = links_behind o.queue w p here in
      let l = o.queue.links.linking b.0 b.1 w p b.2 b.3 here in
      let none : (seen p).next ≡ None = ap (λ (n : NodeName). (seen n).next) l.0 ∙ l.1 in
      let bare = shown_bare (front_cut own stage (slice_get main 0)) node node p none in
      record {
        by = b.1;
        noded = queue_noded (phase b.1) (lists_main b.0 b.1 b.2);
        owned = l.0;
        next = ap (λ (n : Node). n.next) (sym bare.1) ∙ none;
      })

  -- a tail is the node of one that stands in the queue
  pub lists_last : (n : NodeName) → tail ≡ Some n → Last phase own n
  lists_last n e =
      elim (last_cases main) [
        | inl q ↦ absurd
            (let m = by_family (λ o. o.queue.ends.no_tail) (λ o. o.queue.ends.no_tail) in
            let none = m (ap (λ (us : List Waiter). slice_get us 0) q) in grind (arith, none, e))
        | inr s ↦ let t =
            by_family (λ o. o.queue.ends.tail_is s.0 s.1 s.2 s.3)
            (λ o. o.queue.ends.tail_is s.0 s.1 s.2 s.3) in
            record {
              by = s.1;
              noded = queue_noded (phase s.1) (lists_main s.0 s.1 s.2);
              owned = grind (arith, t, e);
            }
      ]

  -- the lists of a lock whose waiters are as before
  pub lists_keep : {phase' : Waiter → Phase} {own' : Waiter → NodeName} {node' : NodeName → Node}
      {stage' : Waiter → Stage} {kept' : Waiter → Option NodeName}
      → ((u : Waiter) → queues (phase u) ≡ true
      → (phase' u ≡ phase u) × (own' u ≡ own u) × (node' (own' u) ≡ node (own u))
      × (stage' u ≡ stage u) × (kept' u ≡ kept u))
      → ((u : Waiter) → queues (phase' u) ≡ true → phase' u ≡ phase u)
      → ((u : Waiter) → phase' u ≡ Prepared → node' (own' u) ≡ rest_node)
      → (((u : Waiter) → phase u ≢ Holds → stage u ≡ Rests) → (u : Waiter) → phase' u ≢ Holds
      → stage' u ≡ Rests)
      → Apart phase own
      → ((u : Waiter) → phase' u ≡ Prepared → (z : Waiter) → queues (phase z) ≡ true
      → own' u ≢ own z)
      → ListsAgree aside tail phase' own' node' local threshold stage' kept' main second passes
  lists_keep same back new calm apart fresh =
      record {
        flat = λ e. let o = ok.flat e in
            record {
              queue =
                  queue_keep o.queue (λ u h. let s = same u h in (s.0, s.1, s.2)) back new;
              single = o.single;
              unpassed = o.unpassed;
            };
        cna = λ e. let o = ok.cna e in
            cna_keep o same back new (calm o.calm) apart fresh;
      }

module _ {aside : Bool} {tail : Option NodeName} {phase phase' : Waiter → Phase}
    {own : Waiter → NodeName} {node : NodeName → Node} {local : Waiter → Waiter → Bool}
    {threshold : ℕ}
    {stage stage' : Waiter → Stage} {kept kept' : Waiter → Option NodeName}
    {main second : List Waiter} {passes : List ℕ} {w : Waiter} {r r' : Phase}
    (ok : ListsAgree aside tail phase own node local threshold stage kept main second passes)
    (moves : Moves phase phase' w r r')
    (idle : ChoosesNothing stage stage' kept kept' w) (off : r ≢ Holds) where
  -- before the row no choice was on
  was_rest : CnaAgrees tail phase own node local threshold stage kept main second passes
      → stage w ≡ Rests
  was_rest o = o.calm w (λ e. off (sym moves.was ∙ e))

  stages : CnaAgrees tail phase own node local threshold stage kept main second passes
      → (u : Waiter) → stage' u ≡ stage u
  stages o u = elim (waiter_cases u w) [
    | inl e ↦ ap stage' e ∙ idle.rests ∙ sym (ap stage e ∙ was_rest o)
    | inr ne ↦ idle.stages u ne
  ]

  -- a waiter takes the tail, behind the node that it met
  pub lists_behind : {p : NodeName} → r ≡ Prepared → r' ≡ Links p → tail ≡ Some p
      → ListsAgree aside (Some (own w)) phase' own node local threshold stage' kept'
      (main ++ w ∷ []) second passes
  lists_behind {p} was now met =
      let m : Moves phase phase' w Prepared (Links p) =
      subst (λ (q : Phase). Moves phase phase' w q (Links p)) was
      (subst (λ (q : Phase). Moves phase phase' w r q) now moves) in
      record {
        flat = λ e. let o = ok.flat e in
            record {
              queue = arrive_behind o.queue m met;
              single = o.single;
              unpassed = o.unpassed;
            };
        cna = λ e. let o = ok.cna e in
            cna_behind o m met (stages o) idle.keeps;
      }

  -- a waiter takes the tail, and is the front
  pub lists_first : r ≡ Prepared → r' ≡ Leads → tail ≡ None → kept' w ≡ None
      → ListsAgree aside (Some (own w)) phase' own node local threshold stage' kept'
      (main ++ w ∷ []) second passes
  lists_first was now met none =
      let m : Moves phase phase' w Prepared Leads =
      subst (λ (q : Phase). Moves phase phase' w q Leads) was
      (subst (λ (q : Phase). Moves phase phase' w r q) now moves) in
      record {
        flat = λ e. let o = ok.flat e in
            record { queue = arrive_first o.queue m met; single = o.single; unpassed = o.unpassed };
        cna = λ e. let o = ok.cna e in
            cna_first o m met (stages o) none;
      }

  -- the front goes on
  pub lists_lead : leads r ((node (own w)).flag) ≡ true → leads r' ((node (own w)).flag) ≡ true
      → r' ≢ Waits → ((n : NodeName) → r' ≢ Hands n)
      → named_by r' ((node (own w)).flag) (kept' w) ≡ named_by r ((node (own w)).flag) (kept w)
      → ListsAgree aside tail phase' own node local threshold stage' kept' main second passes
  lists_lead lead lead' not_waits not_hands named =
      record {
        flat = λ e. let o = ok.flat e in
            record {
              queue =
                  queue_lead o.queue moves lead lead' not_waits (λ n q. absurd (not_hands n q));
              single = o.single;
              unpassed = o.unpassed;
            };
        cna = λ e. let o = ok.cna e in
            cna_lead o (record {
              moves = moves;
              front = lists_front ok w
                  (ap (λ (q : Phase). leads q ((node (own w)).flag)) moves.was ∙ lead);
              leads_on = lead';
              not_waits = not_waits;
              not_hands = not_hands;
              rests = was_rest o;
              stages = stages o;
              keeps = idle.keeps;
              names = named;
            });
      }

-- the node that was met gets the own node as its next
pub lists_link : {aside : Bool} {tail : Option NodeName} {phase phase' : Waiter → Phase}
    {own : Waiter → NodeName} {node node' : NodeName → Node} {local : Waiter → Waiter → Bool}
    {threshold : ℕ} {stage stage' : Waiter → Stage} {kept kept' : Waiter → Option NodeName}
    {main second : List Waiter} {passes : List ℕ} {w : Waiter} {p : NodeName} {y : Node}
    → ListsAgree aside tail phase own node local threshold stage kept main second passes
    → Moves phase phase' w (Links p) Waits
    → ChoosesNothing stage stage' kept kept' w
    → Rewrites node node' p y
    → y ≡ record (node p) { next = Some (own w) }
    → Apart phase own
    → ListsAgree aside tail phase' own node' local threshold stage' kept' main second passes
lists_link {w = w} {p = p} ok moves idle writes store apart =
    record {
      flat = λ e. let o = ok.flat e in let b = links_behind o.queue w p moves.was in
          record {
            queue = queue_link_at o.queue moves writes (ap (λ (n : Node). n.flag) store)
                (ap (λ (n : Node). n.next) store) apart b.0 b.1 b.2 b.3;
            single = o.single;
            unpassed = o.unpassed;
          };
      cna = λ e. let o = ok.cna e in
          cna_link o moves writes store (stages ok moves idle (λ q. cc q) o) idle.keeps apart;
    }

-- what the only waiter of the queue, which leaves it from r, has: the lead, the tail and no second
-- queue
pub record IsSole (tail : Option NodeName) (own : Waiter → NodeName) (node : NodeName → Node)
    (kept : Waiter → Option NodeName) (w : Waiter) (r : Phase) : Type 0 where
  pub lead : leads r ((node (own w)).flag) ≡ true
  pub off : r ≢ Holds
  pub mine : tail ≡ Some (own w)
  pub nobody : named_by r ((node (own w)).flag) (kept w) ≡ None

-- the only waiter of the queue leaves it
pub lists_sole : {aside : Bool} {tail : Option NodeName} {phase phase' : Waiter → Phase}
    {own own' : Waiter → NodeName} {node : NodeName → Node} {local : Waiter → Waiter → Bool}
    {threshold : ℕ} {stage stage' : Waiter → Stage} {kept kept' : Waiter → Option NodeName}
    {main second : List Waiter} {passes : List ℕ} {w : Waiter} {r : Phase}
    → ListsAgree aside tail phase own node local threshold stage kept main second passes
    → Moves phase phase' w r Idle
    → ChoosesNothing stage stage' kept kept' w
    → IsSole tail own node kept w r
    → ((u : Waiter) → u ≢ w → own' u ≡ own u)
    → Apart phase own
    → ListsAgree aside None phase' own' node local threshold stage' kept'
    (drop 1 main) second passes
lists_sole {own = own} {node = node} {w = w} ok moves idle sole owns apart =
    record {
      flat = λ e. let o = ok.flat e in
          record {
            queue = queue_sole o.queue moves sole.lead owns sole.mine apart;
            single = o.single;
            unpassed = o.unpassed;
          };
      cna = λ e. let o = ok.cna e in
          (cna_sole o (record {
            moves = moves;
            front = lists_front ok w
                (ap (λ (q : Phase). leads q ((node (own w)).flag)) moves.was ∙ sole.lead);
            mine = sole.mine;
            rests = was_rest ok moves idle sole.off o;
            nobody = sole.nobody;
            owns = owns;
            stages = stages ok moves idle sole.off o;
            apart = apart;
          })).0;
    }
