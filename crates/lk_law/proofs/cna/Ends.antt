use Rattle.std.proofs.Common.{◌≡◌, ℕ, suc, Option, Some, None, Bool, true, List, [], ◌∷◌, ◌++◌}
use Rattle.std.proofs.Common.{length, ◌⊎◌, inl, inr, arith, ap, refl, sym, ◌∙◌, subst, slice_get}
use Rattle.std.proofs.Common.{drop, take}
use Rattle.lk_law.proofs.Names.{NodeName, last_cases, Waiter, Node, CnaAgrees, FrontAgrees}
use Rattle.lk_law.proofs.Names.{SecondAgrees, front_cut, front_tip, named_by, part, Phase, has_node}
use Rattle.lk_law.proofs.Names.{leads, queues, Idle, Leads, Prepared, Moves, QueueAgrees, Rewrites}
use Rattle.lk_law.proofs.Names.{Stage, cut_of, tail_seen, tied, tip_of, Flushing, Promoting, Rests}
use Rattle.lk_law.proofs.{cna.Join.c9_c10, cna.Parts.{part_cases, part_out, nobody-first}}
use Rattle.lk_law.proofs.{cna.Rows.part_moves, cna.Steps.{LeavesAlone, LetsReturn, JoinsAt}}
use Rattle.lk_law.proofs.{common.Cases.{waiter_cases, Apart}, queue.Arrive.arrive_first}
use Rattle.lk_law.proofs.queue.Sole.{queue_sole, sole_empty}
use Rattle.lk_law.specs.Stage.{before_of}

nothing : {A : Type 0} (xs : List A) → slice_get xs 0 ≡ None → xs ≡ []
nothing [] h = refl
nothing (x ∷ xs) h = cc h

no-passes : (ps : List ℕ) (ws : List Waiter) → length ps ≡ length ws → ws ≡ [] → ps ≡ []
no-passes [] ws e h = refl
no-passes (p ∷ ps) ws e h = let f = ap length h in absurd (omega arith)

module _ {tail : Option NodeName} {phase : Waiter → Phase} {own : Waiter → NodeName}
    {node : NodeName → Node} {local : Waiter → Waiter → Bool} {threshold : ℕ}
    {stage : Waiter → Stage} {kept : Waiter → Option NodeName} {main second : List Waiter}
    {passes : List ℕ} {x : Waiter}
    (ok : CnaAgrees tail phase own node local threshold stage kept main second passes) where
  module _ {phase' : Waiter → Phase} where
    -- nobody waits in second, and the one that leads has done nothing yet
    calm-lead : (main' : List Waiter) (g : Stage) → g ≡ Rests → (node (own x)).runs ≡ 0
        → FrontAgrees phase' own node local threshold main' [] [] x g None
    calm-lead main' g e run =
        rw e (record {
          names = λ p. refl;
          names_moved = λ c d j p q r. cc p;
          tail_at = λ i u z p h. cc h;
          tail_hung = λ c n p q. cc p;
          tail_met = λ t i z p. cc p;
          tail_some = λ t p. cc p;
          run = rw run (omega arith);
          run_none = λ p q. run;
          run_short = λ c d j p. cc p;
          run_picks = λ n p. cc p;
          own_link = λ n p. cc p;
          run_next = λ z p. cc p;
          some = λ c d j p. cc p;
          far = λ c d j i p. cc p;
          near = λ c d j u p. cc p;
          close = λ c d j u p. cc p;
          cut = λ c p. cc p;
          next = λ j z p. cc p;
          kin = λ c d j m z p q. cc p;
          before = λ c p. cc p;
          lengths = refl;
          oldest = λ n h. cc h;
          bounded = λ i n h. cc h;
        })

    -- row G4: a waiter seeks the tail of an empty queue
    pub cna_first : {stage' : Waiter → Stage} {kept' : Waiter → Option NodeName}
        → Moves phase phase' x Prepared Leads → tail ≡ None
        → ((u : Waiter) → stage' u ≡ stage u) → kept' x ≡ None
        → CnaAgrees (Some (own x)) phase' own node local threshold stage' kept' (main ++ x ∷ [])
        second passes
    cna_first {stage'} {kept'} moves met stages keep =
        let em : slice_get main 0 ≡ None =
        elim (last_cases main) [
          | inl e ↦ ap (λ xs. slice_get xs 0) e
          | inr p ↦ absurd (let e = ok.queue.ends.tail_is p.0 p.1 p.2 p.3 in cc (e, met))
        ] in
        let me : main ≡ [] = nothing main em in
        let se : second ≡ [] = ok.empty em in
        let none : passes ≡ [] = no-passes passes second ok.lengths se in
        let rest : stage' x ≡ Rests = stages x ∙ ok.calm x (λ e. cc (e, moves.was)) in
        let out : (i : ℕ) → slice_get second i ≡ Some x → ⊥ =
        λ i h. cc ((ok.second_ok.waits i x h).0, moves.was) in
        let pm = part_moves second phase phase' x Prepared Leads out moves in
        let q0 : QueueAgrees tail (part second phase) own node main = rw em at ok.queue in
        let q = arrive_first q0 pm met in
        let at : slice_get (main ++ x ∷ []) 0 ≡ Some x =
        ap (λ (xs : List Waiter). slice_get (xs ++ x ∷ []) 0) me in
        let f = q0.links.fresh x pm.was in
        record {
          queue = let e : front_cut own stage' (slice_get (main ++ x ∷ []) 0) ≡ None =
              rw at (rw rest refl) in rw e q;
          second_ok =
              rw se (record {
                waits = λ i u h. cc h;
                once = λ i j u h. cc h;
                linked = λ i u v h. cc h;
                last = λ i u h. cc h;
              });
          moved = ok.moved;
          lead = λ u h.
              let same : x ≡ u = cc (at, h) in
              let P : Waiter → Type 0 =
              λ z. FrontAgrees phase' own node local threshold (main ++ x ∷ []) second passes z
              (stage' z) (named_by (phase' z) ((node (own z)).flag) (kept' z)) in
              subst P same (rw (se, none, moves.now, keep)
              (calm-lead (main ++ x ∷ []) (stage' x) rest (ap (λ (n : Node). n.runs) f)));
          lengths = ok.lengths;
          empty = λ h. se;
          calm = λ u h. stages u
              ∙ elim (waiter_cases u x) [
                | inl e ↦ ok.calm u (λ q. cc (ap phase e, q, moves.was))
                | inr ne ↦ ok.calm u (λ q. h (moves.others u ne ∙ q))
              ];
        }

  module _ {phase' : Waiter → Phase} {own' : Waiter → NodeName} {stage' : Waiter → Stage}
      {kept' : Waiter → Option NodeName} where
    -- rows G8 and E13: the only waiter leaves
    pub cna_sole : {r : Phase}
        → LeavesAlone tail phase phase' own own' node stage stage' kept main x r
        → CnaAgrees None phase' own' node local threshold stage' kept' (drop 1 main) second passes
        × (second ≡ []) × (passes ≡ [])
    cna_sole {r} step =
        let o = ok.lead x step.front in
        let nn : named_by (phase x) ((node (own x)).flag) (kept x) ≡ None =
        ap (λ z. named_by z ((node (own x)).flag) (kept x)) step.moves.was ∙ step.nobody in
        let se : second ≡ [] =
        nobody-first own second (sym (o.names (inl (ap tied step.rests))) ∙ nn) in
        let pe : passes ≡ [] = no-passes passes second o.lengths se in
        let out : (i : ℕ) → slice_get second i ≡ Some x → ⊥ = λ i h. cc (h, se) in
        let pm = part_moves second phase phase' x r Idle out step.moves in
        let ce : front_cut own stage (slice_get main 0) ≡ None =
        rw step.front (rw step.rests refl) in
        let q0 : QueueAgrees tail (part second phase) own node main = rw ce at ok.queue in
        let papart : Apart (part second phase) own =
        λ u z hu hz e. step.apart u z (noded u hu) (noded z hz) e in
        let f : leads r ((node (own x)).flag) ≡ true = rw pm.was at (q0.ends.first x step.front) in
        let q = queue_sole q0 pm f step.owns step.mine papart in
        let gone = sole_empty q0 pm f step.owns step.mine papart 0 in (
          record {
            queue = let e : front_cut own' stage' (slice_get (drop 1 main) 0) ≡ None =
                rw gone refl in rw e q;
            second_ok =
                rw se (record {
                  waits = λ i u h. cc h;
                  once = λ i j u h. cc h;
                  linked = λ i u v h. cc h;
                  last = λ i u h. cc h;
                });
            moved = ok.moved;
            lead = λ u h. absurd (cc (gone, h));
            lengths = ok.lengths;
            empty = λ h. se;
            calm = λ u h. step.stages u
                ∙ elim (waiter_cases u x) [
                  | inl e ↦ ap stage e ∙ step.rests
                  | inr ne ↦ ok.calm u (λ q. h (step.moves.others u ne ∙ q))
                ];
          },
          se,
          pe,
        )
      where
        noded : (u : Waiter) → has_node (part second phase u) ≡ true → has_node (phase u) ≡ true
        noded u h = elim
            (part_cases second phase u) [
              | inl q ↦ rw (ok.second_ok.waits q.0 u q.1).0 refl
              | inr q ↦ ap has_node (sym q.0) ∙ h
            ]

  -- row C9
  pub c9_flush : {a t y : NodeName} {z : Node} {node' : NodeName → Node} {stage' : Waiter → Stage}
      {kept' : Waiter → Option NodeName}
      → LetsReturn phase own stage stage' kept kept' main x y
      → stage x ≡ Flushing a t
      → Rewrites node node' t z
      → z ≡ record (node t) { next = Some a }
      → CnaAgrees tail phase own node' local threshold stage' kept'
      (take 1 main ++ (second ++ drop 1 main)) [] []
  c9_flush {a} {t} {y} {z} {node'} step is writes store =
      let v = (ok.lead x step.front).before a (ap before_of is) in
      let at : JoinsAt tail tail phase own node node' main (own x) t (stage x) z = record {
        met = ap tail_seen is;
        uncut = ap (cut_of (own x)) is;
        no_tip = ap tip_of is;
        loose = ap tied is;
        writes = writes;
        flag = ap (λ (n : Node). n.flag) store;
        runs = ap (λ (n : Node). n.runs) store;
        way = inl (
          v.0,
          v.1,
          v.2,
          ap (λ (n : Node). n.next) store ∙ ap (λ n. Some n) (sym v.3),
          refl,
        );
      } in
      c9_c10 ok step at

  -- row C10, swapped: the word met had the own node as its tail
  pub c10_promote : {t y : NodeName} {stage' : Waiter → Stage} {kept' : Waiter → Option NodeName}
      → LetsReturn phase own stage stage' kept kept' main x y
      → stage x ≡ Promoting t
      → tail ≡ Some (own x)
      → CnaAgrees (Some t) phase own node local threshold stage' kept'
      (take 1 main ++ (second ++ drop 1 main)) [] []
  c10_promote {t} {y} step is mine =
      let at = step.front in
      let o = ok.lead x at in
      let so : SecondAgrees phase own node second None =
      let e : front_tip stage (slice_get main 0) ≡ None = rw at (rw is refl) in
      rw e at ok.second_ok in
      let alone : slice_get main 1 ≡ None = single (last_cases main) in
      let last : (node t).next ≡ None = elim (last_cases second) [
        | inl e ↦ absurd (o.tail_some t (ap tail_seen is) e)
        | inr p ↦ ap (λ n. (node n).next) (o.tail_met t p.0 p.1 (ap tail_seen is) p.2 p.3)
            ∙ so.last p.0 p.1 p.2 p.3
      ] in
      let way : JoinsAt tail (Some t) phase own node node main (own x) t (stage x) (node t) =
      record {
        met = ap tail_seen is;
        uncut = ap (cut_of (own x)) is;
        no_tip = ap tip_of is;
        loose = ap tied is;
        writes = record { now = refl; others = λ k ne. refl };
        flag = refl;
        runs = refl;
        way = inr (alone, last, refl);
      } in
      c9_c10 ok step way
    where
      single : (main ≡ [])
          ⊎ ((i : ℕ) × (u : Waiter) × (slice_get main i ≡ Some u) × (slice_get main (suc i) ≡ None)
          × (length main ≡ suc i))
          → slice_get main 1 ≡ None
      single (inl e) = ap (λ xs. slice_get xs 1) e
      single (inr p) =
          let e = ok.queue.ends.tail_is p.0 p.1 p.2 p.3 in
          let m = part_out second phase p.1 (ok.queue.members.inside p.0 p.1 p.2) in
          let q : queues (phase p.1) ≡ true =
          ap queues (sym m.0) ∙ ok.queue.members.inside p.0 p.1 p.2 in
          let s : p.1 ≡ x =
          step.apart p.1 x (noded (phase p.1) q) (rw step.holds refl)
          (let f : Some (own p.1) ≡ Some (own x) = sym e ∙ mine in cc f) in
          let i : p.0 ≡ 0 = ok.queue.members.once p.0 0 x (p.2 ∙ ap (λ z. Some z) s) step.front in
          ap (λ n. slice_get main (suc n)) (sym i) ∙ p.3
        where
          noded : (r : Phase) → queues r ≡ true → has_node r ≡ true
          noded r p = grind arith
