use Rattle.std.proofs.Common.{false, ◌≡◌, ◌≢◌, ℕ, zero, suc, Option, Some, None, Bool, List, []}
use Rattle.std.proofs.Common.{◌∷◌, ◌++◌, length, ◌⊎◌, inl, inr, arith, ap, refl, sym, ◌∙◌, subst}
use Rattle.std.proofs.Common.{◌<◌, ◌≤◌, ◌+◌, slice_get, drop, take, replicate, length-append, map}
use Rattle.std.proofs.Common.{if◌then◌else◌}
use Rattle.std.proofs.lemmas.List.{length-replicate}
use Rattle.lk_law.proofs.Names.{cases_eq, NodeName, get-drop_one, get_cases, Waiter, Node, flag_for}
use Rattle.lk_law.proofs.Names.{CnaAgrees, FrontAgrees, SecondAgrees, first_node, front_cut}
use Rattle.lk_law.proofs.Names.{front_tip, named_by, part, same_none, shown, Phase, Holds, Waits}
use Rattle.lk_law.proofs.Names.{QueueAgrees, Stage, Rests}
use Rattle.lk_names.proofs.ByIndex.{get_within, get_past}
use Rattle.lk_law.proofs.cna.Joined.{get-drop, get-take_none, get_below, get-join, get-join_left}
use Rattle.lk_law.proofs.{cna.Joined.get-join_last, cna.Parts.not_in}
use Rattle.lk_law.proofs.cna.Pass.{get-skip, skip-in, c8_queue, c8-main, c8-same}
use Rattle.lk_law.proofs.{cna.Steps.{HandsOver, IsHandedTo, KnowsMoved}, common.Cases.waiter_cases}
use Rattle.lk_law.specs.Cna.{node_in}

-- nothing changes that the second queue reads
pub second_keep : {phase phase' : Waiter → Phase} {own own' : Waiter → NodeName}
    {node node' : NodeName → Node} {second : List Waiter} {tip : Option NodeName}
    → SecondAgrees phase own node second tip
    → ((i : ℕ) (u : Waiter) → slice_get second i ≡ Some u
    → (phase' u ≡ phase u) × (own' u ≡ own u) × (node' (own' u) ≡ node (own u)))
    → SecondAgrees phase' own' node' second tip
second_keep ok same =
    record {
      waits = λ i u h. let s = same i u h in let q = ok.waits i u h in
          (s.0 ∙ q.0, ap (λ (n : Node). n.flag) s.2 ∙ q.1);
      once = ok.once;
      linked = λ i u v h k. let s = same i u h in let t = same (suc i) v k in
          ap (λ (n : Node). n.next) s.2 ∙ ok.linked i u v h k ∙ ap (λ n. Some n) (sym t.1);
      last = λ i u h k. let s = same i u h in ap (λ (n : Node). n.next) s.2 ∙ ok.last i u h k;
    }

pub append-nil : {A : Type 0} (xs : List A) → xs ++ [] ≡ xs
append-nil [] = refl
append-nil (x ∷ xs) = ap (λ ys. x ∷ ys) (append-nil xs)

-- the counts after a handover
passes-at : (ps : List ℕ) (k i n : ℕ)
    → slice_get (map (λ m. suc m) (ps ++ replicate k 0)) i ≡ Some n
    → ((p : ℕ) × (slice_get ps i ≡ Some p) × (n ≡ suc p))
    ⊎ ((n ≡ 1) × (0 < k) × (slice_get ps i ≡ None))
passes-at [] zero i n h = cc
passes-at [] (suc k) zero n h = inr (grind arith, omega arith, refl)
passes-at [] (suc k) (suc i) n h =
    elim (passes-at [] k i n h) [ inl a ↦ absurd (cc a.1) | inr b ↦ inr (b.0, omega arith, refl) ]
passes-at (p ∷ ps) k zero n h = inl (p, refl, grind arith)
passes-at (p ∷ ps) k (suc i) n h = passes-at ps k i n h

passes-none : {A : Type 0} (ps : List ℕ) (xs : List A) → length ps ≡ length xs
    → slice_get ps 0 ≡ None → xs ≡ []
passes-none [] [] e h = refl
passes-none [] (x ∷ xs) e h = absurd (omega arith)
passes-none (p ∷ ps) xs e h = cc

map-length : (ps : List ℕ) → length (map (λ (n : ℕ). suc n) ps) ≡ length ps
map-length [] = refl
map-length (p ∷ ps) = ap suc (map-length ps)

length-skips : (k : ℕ) (main : List Waiter) (v : Waiter) → slice_get main (suc k) ≡ Some v
    → length (take k (drop 1 main)) ≡ k
length-skips k [] v h = cc
length-skips k (w ∷ main) v h = go k main h
  where
    go : (k : ℕ) (xs : List Waiter) → slice_get xs k ≡ Some v → length (take k xs) ≡ k
    go zero xs h = refl
    go (suc k) [] h = cc
    go (suc k) (x ∷ xs) h = ap suc (go k xs h)

-- row C8, with the nodes and lists of one lock
module _ {tail : Option NodeName} {phase phase' : Waiter → Phase} {own own' : Waiter → NodeName}
    {node node' : NodeName → Node} {local : Waiter → Waiter → Bool} {threshold : ℕ}
    {stage stage' : Waiter → Stage} {kept : Waiter → Option NodeName}
    {main second : List Waiter} {passes : List ℕ} {w v : Waiter} {k : ℕ} {y : NodeName} {x : Node}
    (ok : CnaAgrees tail phase own node local threshold stage kept main second passes)
    (step : HandsOver phase phase' own own' node node' stage stage' kept main w y x)
    (to : IsHandedTo phase own main k v y) where
  -- what is common to a move and to a plain handover
  hand-named : node_in (flag_for (kept w)) ≡ kept w
  hand-named = go (kept w)
    where
      go : (o : Option NodeName) → node_in (flag_for o) ≡ o
      go None = refl
      go (Some n) = refl

  hand-lead : FrontAgrees phase own node local threshold main second passes w (stage w) (kept w)
  hand-lead =
      let P : Option NodeName → Type 0 =
      λ o. FrontAgrees phase own node local threshold main second passes w (stage w) o in
      let e : named_by (phase w) ((node (own w)).flag) (kept w) ≡ kept w =
      ap (λ r. named_by r ((node (own w)).flag) (kept w)) step.moves.was in
      subst P e (ok.lead w step.front)

  hand-rests : stage' v ≡ Rests
  hand-rests =
      elim (waiter_cases v w) [
        | inl e ↦ ap stage' e ∙ step.rests
        | inr ne ↦ step.stages v ne ∙ ok.calm v (λ e. cc (e, to.waits))
      ]

  hand-calm : (u : Waiter) → phase' u ≢ Holds → stage' u ≡ Rests
  hand-calm u h =
      elim (waiter_cases u w) [
        | inl e ↦ ap stage' e ∙ step.rests
        | inr ne ↦ step.stages u ne ∙ ok.calm u (λ e. h (step.moves.others u ne ∙ e))
      ]

  module _ {b : NodeName}
      (knows : KnowsMoved own node threshold main second w (stage w) (kept w) k y b x)
      (joined : SecondAgrees phase' own' node' (second ++ take k (drop 1 main)) None) where
    hand-queue : QueueAgrees tail (part second phase) own (shown (Some (b, y)) node) main
    hand-queue =
        let e : front_cut own stage (slice_get main 0) ≡ Some (b, y) = rw step.front knows.cut in
        rw e at ok.queue

    hand-not_w : v ≢ w
    hand-not_w e = cc (ap phase e, to.waits, step.moves.was)

    hand-v : node' (own' v) ≡ x
    hand-v = rw (step.owns v hand-not_w, to.owned) step.writes.now

    hand-kept : (kept' : Waiter → Option NodeName)
        → named_by (phase' v) ((node' (own' v)).flag) (kept' v) ≡ kept w
    hand-kept kept' =
        let r : phase' v ≡ Waits = step.moves.others v hand-not_w ∙ to.waits in
        let f : (node' (own' v)).flag ≡ flag_for (kept w) =
        ap (λ (n : Node). n.flag) (hand-v ∙ step.store) in
        rw (r, f) hand-named

    -- one of the new second queue
    hand-in : (i : ℕ) (u : Waiter) → slice_get (second ++ take k (drop 1 main)) i ≡ Some u
        → (u ≢ w) × (u ≢ v) × (node' (own' u) ≡ node (own u)) × (own' u ≡ own u)
    hand-in i u h =
        let q = joined.waits i u h in
        let ne : u ≢ w = (λ e. cc (ap phase' e, q.0, step.moves.now)) in
        let r : phase u ≡ Waits = sym (step.moves.others u ne) ∙ q.0 in
        let nv : u ≢ v = (λ e. elim (get-join second (take k (drop 1 main)) i u h) [
          | inl a ↦ let m =
              c8-main second hand-queue step to knows.last (suc k) v to.place in
              not_in second v m.1 i (a ∙ ap (λ z. Some z) e)
          | inr p ↦ let s = get-skip k main p.0 u p.2 in
              let o =
              hand-queue.members.once (suc p.0) (suc k) v (s.1 ∙ ap (λ z. Some z) e) to.place in
              let lt = s.0 in omega arith
        ]) in (
          ne,
          nv,
          c8-same second hand-queue step to knows.last u (rw r refl) ne nv,
          step.owns u ne,
        )

    hand-first : kept w ≡ first_node own (second ++ take k (drop 1 main))
    hand-first =
        elim (cases_eq k 0) [
          | inl e ↦ let P : ℕ → Type 0 =
              λ n. kept w ≡ first_node own (second ++ take n (drop 1 main)) in
              subst P (sym e) ((knows.plain e).0 ∙ ap (first_node own) (sym (append-nil second)))
          | inr n ↦ (knows.moved (omega arith)).0
        ]

    hand-first' : kept w ≡ first_node own' (second ++ take k (drop 1 main))
    hand-first' = hand-first ∙ same (second ++ take k (drop 1 main)) (λ u h. (hand-in 0 u h).3)
      where
        same : (ws : List Waiter) → ((u : Waiter) → slice_get ws 0 ≡ Some u → own' u ≡ own u)
            → first_node own ws ≡ first_node own' ws
        same [] h = refl
        same (z ∷ ws) h = ap (λ n. Some n) (sym (h z refl))

    hand-tail : (i : ℕ) (u z : Waiter) → slice_get (second ++ take k (drop 1 main)) 0 ≡ Some u
        → slice_get (second ++ take k (drop 1 main)) i ≡ Some z
        → slice_get (second ++ take k (drop 1 main)) (suc i) ≡ None
        → (node' (own' u)).second_tail ≡ Some (own' z)
    hand-tail i u z h g n =
        let a = hand-in 0 u h in let c = hand-in i z g in
        rw (a.2, c.3) (elim (cases_eq k 0) [
          | inl e ↦ small e h g n
          | inr ne ↦ big (omega arith) h g n
        ])
      where
        small : k ≡ 0 → slice_get (second ++ take k (drop 1 main)) 0 ≡ Some u
            → slice_get (second ++ take k (drop 1 main)) i ≡ Some z
            → slice_get (second ++ take k (drop 1 main)) (suc i) ≡ None
            → (node (own u)).second_tail ≡ Some (own z)
        small e h g n =
            let l : second ++ take k (drop 1 main) ≡ second =
            ap (λ m. second ++ take m (drop 1 main)) e ∙ append-nil second in
            (knows.plain e).1 i u z (rw l at h) (rw l at g) (rw l at n)

        big : 0 < k → slice_get (second ++ take k (drop 1 main)) 0 ≡ Some u
            → slice_get (second ++ take k (drop 1 main)) i ≡ Some z
            → slice_get (second ++ take k (drop 1 main)) (suc i) ≡ None
            → (node (own u)).second_tail ≡ Some (own z)
        big lt h g n =
            let named : kept w ≡ Some (own u) =
            hand-first ∙ head (second ++ take k (drop 1 main)) h in
            let at = (knows.moved lt).1 (own u) named in
            at ∙ ap (λ m. Some m) (sym (elim (get-join_last second (take k (drop 1 main)) i z g n) [
              | inl a ↦ absurd (let len = length-skips k main v to.place in
                  let len' = ap length a.2 in omega arith)
              | inr d ↦
                  let s = get-skip k main d.0 z d.2 in
                  let e : suc d.0 ≡ k = elim (get-take_none k (drop 1 main) (suc d.0) d.3) [
                    | inl le ↦ let lt' = s.0 in omega arith
                    | inr past ↦ absurd (let nn : slice_get main (suc (suc d.0)) ≡ None =
                        sym (get-drop_one main (suc d.0)) ∙ past in
                        let lt' = s.0 in
                        let p = get_below main (suc (suc d.0)) (suc k) v to.place (omega arith) in
                        cc (nn, p.1))
                  ] in
                  knows.last z (ap (slice_get main) (sym e) ∙ s.1)
            ]))
          where
            head : (ws : List Waiter) → slice_get ws 0 ≡ Some u → first_node own ws ≡ Some (own u)
            head [] h = cc
            head (t ∷ ws) h = let e : t ≡ u = grind arith in ap (λ m. Some (own m)) e

    hand-run : (n : NodeName) → kept w ≡ Some n → x.runs ≡ (node (own w)).runs + 1
    hand-run n e = knows.runs
        ∙ ap (λ (o : Option NodeName). if same_none o then 0 else ((node (own w)).runs + 1)) e

    hand-kept_cases : (o : Option NodeName) → (o ≡ None) ⊎ ((n : NodeName) × (o ≡ Some n))
    hand-kept_cases None = inl refl
    hand-kept_cases (Some n) = inr (n, refl)

    hand-run_none : kept w ≡ None → x.runs ≡ 0
    hand-run_none e = knows.runs
        ∙ ap (λ (o : Option NodeName). if same_none o then 0 else ((node (own w)).runs + 1)) e

    -- a waiter of second makes second named
    hand-some : (i : ℕ) (u : Waiter) → slice_get (second ++ take k (drop 1 main)) i ≡ Some u
        → (n : NodeName) × (kept w ≡ Some n)
    hand-some i u h = let p = get_below (second ++ take k (drop 1 main)) 0 i u h (omega arith) in
        (own p.0, hand-first ∙ go (second ++ take k (drop 1 main)) p.0 p.1)
      where
        go : (ws : List Waiter) (t : Waiter) → slice_get ws 0 ≡ Some t
            → first_node own ws ≡ Some (own t)
        go [] t h = cc
        go (z ∷ ws) t h = let e : z ≡ t = grind arith in ap (λ m. Some (own m)) e

    hand-there : {A : Type 0} (ps : List ℕ) (xs : List A) (i p : ℕ) → length ps ≡ length xs
        → slice_get ps i ≡ Some p → (z : A) × (slice_get xs i ≡ Some z)
    hand-there ps xs i p e h =
        elim (get_cases xs i) [
          | inl n ↦ absurd
              (let a = get_past xs i n in let c = get_within ps i p h in omega arith)
          | inr q ↦ q
        ]

    hand-pass : (i n : ℕ) → slice_get (map (λ m. suc m) (passes ++ replicate k 0)) i ≡ Some n
        → (n ≤ x.runs) × (i ≡ 0 → n ≡ x.runs)
    hand-pass i n h =
        elim (passes-at passes k i n h) [
          | inl a ↦
              let t = hand-there passes second i a.0 hand-lead.lengths a.1 in
              let s = hand-some i t.0 (get-join_left second (take k (drop 1 main)) i t.0 t.1) in
              let r = hand-run s.0 s.1 in let q = hand-lead.bounded i a.0 a.1 in let e = a.2 in (
                (omega arith),
                λ z. let P : ℕ → Type 0 = λ j. slice_get passes j ≡ Some a.0 in
                    let f = hand-lead.oldest a.0 (subst P z a.1) in omega arith,
              )
          | inr d ↦
              let p = get_below main 1 (suc k) v to.place (let lt = d.1 in omega arith) in
              let g = skip-in k main 0 p.0 (d.1) p.1 in
              let len = hand-lead.lengths in
              let s = far-some (take k (drop 1 main)) g in
              let r = hand-run s.0 s.1 in let e = d.0 in (
                (omega arith),
                λ z. let no : slice_get passes 0 ≡ None =
                    subst (λ (j : ℕ). slice_get passes j ≡ None) z d.2 in
                    let em = passes-none passes second hand-lead.lengths no in
                    let zero_run = (knows.moved d.1).2 em in omega arith,
              )
        ]
      where
        far-some : (ws : List Waiter) {t : Waiter} → slice_get (take k (drop 1 main)) 0 ≡ Some t
            → (n : NodeName) × (kept w ≡ Some n)
        far-some ws {t} g =
            elim (get_cases (second ++ take k (drop 1 main)) 0) [
              | inl n ↦ absurd (elim (get-cases second) [
                | inl e ↦
                    cc (
                      g,
                      subst (λ (zs : List Waiter).
                          slice_get (zs ++ take k (drop 1 main)) 0 ≡ None) e n,
                    )
                | inr p ↦ cc (n, get-join_left second (take k (drop 1 main)) 0 p.0 p.1)
              ])
              | inr q ↦ hand-some 0 q.0 q.1
            ]
          where
            get-cases : (zs : List Waiter) → (zs ≡ []) ⊎ ((p : Waiter) × (slice_get zs 0 ≡ Some p))
            get-cases [] = inl refl
            get-cases (z ∷ zs) = inr (z, refl)

    hand-bound : x.runs ≤ threshold
    hand-bound =
        elim (hand-kept_cases (kept w)) [
          | inl e ↦ let r = hand-run_none e in omega arith
          | inr p ↦ let r = hand-run p.0 p.1 in let s = knows.short p.0 p.1 in omega arith
        ]

    hand-at : slice_get (drop (suc k) main) 0 ≡ Some v
    hand-at = let e : suc k + 0 ≡ suc k = omega arith in
        get-drop (suc k) main 0 ∙ ap (slice_get main) e ∙ to.place

    hand-leader : FrontAgrees phase' own' node' local threshold (drop (suc k) main)
        (second ++ take k (drop 1 main)) (map (λ n. suc n) (passes ++ replicate k 0)) v Rests
        (kept w)
    hand-leader =
        record {
          names = λ p. hand-first';
          names_moved = λ a c j p q r. cc p;
          tail_at = λ i u z p. hand-tail i u z;
          tail_hung = λ c n p. cc p;
          tail_met = λ t i z p. cc p;
          tail_some = λ t p. cc p;
          run = rw hand-v hand-bound;
          run_none = λ p q. rw hand-v (hand-run_none (hand-first ∙ ap (first_node own) p));
          run_short = λ a c j p. cc p;
          run_picks = λ n p. cc p;
          own_link = λ n p. cc p;
          run_next = λ z p. cc p;
          some = λ a c j p. cc p;
          far = λ a c j i p. cc p;
          near = λ a c j u p. cc p;
          close = λ a c j u p. cc p;
          cut = λ c p. cc p;
          next = λ j z p. cc p;
          kin = λ c d j m z p q. cc p;
          before = λ a p. cc p;
          lengths = let a : length (map (λ (n : ℕ). suc n) (passes ++ replicate k 0)) ≡ length
              (passes ++ replicate k 0) = map-length (passes ++ replicate k 0) in
              let c = length-append passes (replicate k 0) in
              let d : length (replicate {A = ℕ} k 0) ≡ k = length-replicate k 0 in
              let e = length-append second (take k (drop 1 main)) in
              let f = length-skips k main v to.place in let g = hand-lead.lengths in omega arith;
          oldest = λ n h. rw hand-v ((hand-pass 0 n h).1 refl);
          bounded = λ i n h. rw hand-v ((hand-pass i n h).0);
        }

    pub c8_all : ((i : ℕ) (u : Waiter) → i < k → slice_get main (suc i) ≡ Some u
        → (z : Waiter) × (local z u ≡ false))
        → (kept' : Waiter → Option NodeName)
        → CnaAgrees tail phase' own' node' local threshold stage' kept' (drop (suc k) main)
        (second ++ take k (drop 1 main)) (map (λ n. suc n) (passes ++ replicate k 0))
    c8_all skipped kept' =
        record {
          queue = let e : front_cut own' stage' (slice_get (drop (suc k) main) 0) ≡ None =
              rw hand-at (rw hand-rests refl) in
              rw e (c8_queue second hand-queue step to knows.last);
          second_ok = let e : front_tip stage' (slice_get (drop (suc k) main) 0) ≡ None =
              rw hand-at (rw hand-rests refl) in rw e joined;
          moved = λ i u h. elim (get-join second (take k (drop 1 main)) i u h) [
            | inl a ↦ ok.moved i u a
            | inr p ↦ let s = get-skip k main p.0 u p.2 in skipped p.0 u s.0 s.1
          ];
          lead = λ u h.
              let same : v ≡ u = grind (arith, hand-at, h) in
              let P : Waiter → Type 0 =
              λ z. FrontAgrees phase' own' node' local threshold (drop (suc k) main)
              (second ++ take k (drop 1 main)) (map (λ n. suc n) (passes ++ replicate k 0)) z
              (stage' z) (named_by (phase' z) ((node' (own' z)).flag) (kept' z)) in
              subst P same (rw (hand-rests, hand-kept kept') hand-leader);
          lengths = hand-leader.lengths;
          empty = λ h. absurd (cc (h, hand-at));
          calm = hand-calm;
        }
