-- The laws of the rows: what a row changes keeps the agreement with what is told, and its event is
-- lawful.
use Rattle.std.proofs.Common.{◌≡◌, ◌≢◌, ◌⊎◌, ℕ, zero, suc, Option, Some, None, true, false, List}
use Rattle.std.proofs.Common.{[], ◌∷◌, ◌++◌, inl, inr, arith, slice_get, refl, subst, append_assoc}
use Rattle.std.proofs.Common.{◌∙◌}
use Rattle.lk_osq.specs.Phase.{Phase, holds, link_behind}
use Rattle.lk_osq.specs.Phase.Phase.{Outside, Fresh, Links, Waits, Cuts, Bridges, Holds, Hands}
use Rattle.lk_osq.specs.declared.nodes.Node.{Node}
use Rattle.lk_osq.specs.Queue.{OsqQueueAgrees, Moves}
use Rattle.lk_osq.specs.declared.events.OsqWhat.TheVariants.{TakeFree, Arrive, TakeHanded, Quit}
use Rattle.lk_osq.specs.declared.events.OsqWhat.TheVariants.{Release}
use Rattle.lk_osq.specs.History.{Told, told, without, Stands, IsLawful}
use Rattle.lk_osq.specs.Agree.{OsqAgrees, NobodyIsThere, OneHolds, OneIsHanded}
use Rattle.lk_osq.proofs.Cases.{cpu_cases}
use Rattle.lk_osq.proofs.Turn.{queue_takes, stands_behind, leads_first}
use Rattle.lk_osq.proofs.Links.{named, queue_enters, queue_links, queue_grabs, queue_tells}
use Rattle.lk_osq.proofs.Links.{tell-phase}
use Rattle.lk_osq.proofs.Arrive.{queue_arrives_behind, queue_arrives_first, first-empty}
use Rattle.lk_osq.proofs.Leave.{Drops, tail_last, queue_frees, queue_hands, queue_withdraws}
use Rattle.lk_osq.proofs.Leave.{hands-second, hands-waits}
use Rattle.lk_osq.proofs.Unlink.{queue_unlinks}
use Rattle.lk_osq.proofs.Tells.{without_drops, without_first, without_later, behind_drops}
use Rattle.lk_osq.proofs.Tells.{first_drops, first_others, empty_list}
use Rattle.lk_names.proofs.ByIndex.{get-append_old}

-- no event: who holds the lock and to whom it is handed stays
pub front_stays : {phase phase' : ℕ → Phase} {t : Told}
    → NobodyIsThere t ⊎ OneHolds phase t ⊎ OneIsHanded phase t
    → ((u : ℕ) → holds (phase u) ≡ true → holds (phase' u) ≡ true)
    → ((q : ℕ) → slice_get (t.holders ++ t.waiting) 0 ≡ Some q → phase q ≡ Waits → phase' q ≡ Waits)
    → NobodyIsThere t ⊎ OneHolds phase' t ⊎ OneIsHanded phase' t
front_stays {t = t} front has waits =
    elim front [
      | inl n ↦ inl n
      | inr f ↦ elim f [
        | inl o ↦ inr
            (inl (record {
              holder = o.holder;
              holders = o.holders;
              handed = o.handed;
              has =
                  has o.holder o.has;
            }))
        | inr h ↦ inr (inr (record {
          next = h.next;
          holders = h.holders;
          handed = h.handed;
          first = h.first;
          waits = waits h.next (rw h.holders h.first) h.waits;
        }))
      ]
    ]

module _ {tail : Option ℕ} {phase phase' : ℕ → Phase} {node : ℕ → Node} {t : Told} {w : ℕ}
    (ok : OsqAgrees tail phase node t) where
  -- O1
  pub law_enters : {node' : ℕ → Node} {x : Node} → Moves phase phase' w Outside Fresh
      → Moves node node' w (node w) x → x.flag ≡ false → x.next ≡ None
      → OsqAgrees tail phase' node' t
  law_enters moves writes flag next =
      record {
        queue = queue_enters ok.queue moves writes flag next;
        front = front_stays ok.front
            (λ u h. grind (arith, h, cpu_cases u w, moves.others u, moves.was))
            (λ q h p. grind (arith, p, cpu_cases q w, moves.others q, moves.was));
      }

  -- O3, Q8
  pub law_tells : {node' : ℕ → Node} {x : Node} {a : ℕ} {r : Phase} → Moves phase phase' w r r
      → Moves node node' a (node a) x
      → x.flag ≡ (node a).flag → x.next ≡ (node a).next → OsqAgrees tail phase' node' t
  law_tells moves writes flag next =
      let same = tell-phase ok.queue moves writes flag next in
      record {
        queue = queue_tells ok.queue moves writes flag next;
        front = front_stays ok.front (λ u h. rw (same u) h) (λ q h p. same q ∙ p);
      }

  -- O4
  pub law_links : {node' : ℕ → Node} {x : Node} {a : ℕ} → Moves phase phase' w (Links a) Waits
      → Moves node node' a (node a) x
      → x.flag ≡ (node a).flag → x.next ≡ Some w → OsqAgrees tail phase' node' t
  law_links {a = a} moves writes flag next =
      let j = stands_behind ok.queue w (grind (arith, moves.was)) (grind (arith, moves.was)) in
      let p = ok.queue.pair j.0 j.1 w j.2 j.3 in
      let s : (j.1 ≡ a) × (link_behind (phase a) ≡ None) = grind (arith, p.before, moves.was) in
      record {
        queue = queue_links ok.queue moves writes flag j.0 (grind (arith, j.2, s.0)) j.3 s.1
            (inl (refl, refl, next));
        front = front_stays ok.front
            (λ u h. grind (arith, h, cpu_cases u w, moves.others u, moves.was))
            (λ q h p. grind (arith, p, cpu_cases q w, moves.others q, moves.was));
      }

  -- Q1 swapped
  pub law_cuts : {node' : ℕ → Node} {x : Node} {a : ℕ} → Moves phase phase' w Waits (Cuts a)
      → Moves node node' a (node a) x
      → (node a).next ≡ Some w → x.flag ≡ (node a).flag → x.next ≡ None
      → OsqAgrees tail phase' node' t
  law_cuts {a = a} moves writes met flag next =
      let j = named ok.queue a w met in
      record {
        queue = queue_links ok.queue moves writes flag j.0 j.1 j.2 j.3 (inr (refl, refl, next));
        front = front_stays ok.front
            (λ u h. grind (arith, h, cpu_cases u w, moves.others u, moves.was))
            (λ q h p. let d : q ≢ w =
            (λ e. grind (arith, ok.queue.once (suc j.0) 0 w j.2, h, e)) in grind
            (arith, p, moves.others q d));
      }

  -- Q7, X2, X7, where the own next names one
  pub law_grabs : {node' : ℕ → Node} {x : Node} {b : ℕ} {r r' : Phase} → Moves phase phase' w r r'
      → Moves node node' w (node w) x
      → (node w).next ≡ Some b → x.flag ≡ (node w).flag → x.next ≡ None
      → ((a : ℕ) × (r ≡ Cuts a) × (r' ≡ Bridges a b)) ⊎ (r ≡ Holds) × (r' ≡ Hands b)
      → OsqAgrees tail phase' node' t
  law_grabs {b = b} moves writes met flag next way =
      let j = named ok.queue w b met in
      record {
        queue = queue_grabs ok.queue moves writes flag next j.0 j.1 j.2 j.4 way;
        front = front_stays ok.front
            (λ u h. grind (arith, h, cpu_cases u w, moves.others u, moves.was, moves.now, way))
            (λ q h p. grind (arith, p, cpu_cases q w, moves.others q, moves.was, way));
      }

-- O2 where nobody is there
pub law_arrives_first : {phase phase' : ℕ → Phase} {node : ℕ → Node} {t : Told} {w : ℕ}
    → OsqAgrees None phase node t → Moves phase phase' w Fresh Holds
    → OsqAgrees (Some w) phase' node (told w TakeFree t) × IsLawful t w TakeFree
law_arrives_first {phase = phase} {phase' = phase'} {t = t} {w = w} ok moves =
    let e : t.holders ++ t.waiting ≡ [] = first-empty ok.queue moves refl in
    let n : (t.holders ≡ []) × (t.waiting ≡ []) × (t.handed ≡ None) = elim ok.front [
      | inl n ↦ (n.holders, n.waiting, n.handed)
      | inr f ↦ elim f [
        | inl o ↦ absurd (grind (arith, o.holders, e))
        | inr h ↦ absurd
            (grind (arith, h.holders, h.first, e))
      ]
    ] in (
      record {
        queue = rw (n.0, n.1) (queue_arrives_first ok.queue moves refl);
        front = inr
            (inl (record {
              holder = w;
              holders = rw n.0 refl;
              handed = n.2;
              has =
                  grind (arith, moves.now);
            }));
      },
      (n.0, n.2),
    )

-- who stands in a part stands in the whole
in_holders : (xs ys : List ℕ) (w : ℕ) → Stands xs w → Stands (xs ++ ys) w
in_holders xs ys w s = go xs s.0 s.1
  where
    go : (xs : List ℕ) (i : ℕ) → slice_get xs i ≡ Some w → Stands (xs ++ ys) w
    go [] i h = cc
    go (x ∷ xs) zero h = (0, h)
    go (x ∷ xs) (suc i) h = let r = go xs i h in (suc r.0, r.1)

in_waiting : (xs ys : List ℕ) (w : ℕ) → Stands ys w → Stands (xs ++ ys) w
in_waiting [] ys w s = s
in_waiting (x ∷ xs) ys w s = let r = in_waiting xs ys w s in (suc r.0, r.1)

module _ {tail : Option ℕ} {phase phase' : ℕ → Phase} {node : ℕ → Node} {t : Told} {w : ℕ}
    (ok : OsqAgrees tail phase node t) where
  -- O2 behind another
  pub law_arrives_behind : {a : ℕ} → tail ≡ Some a → Moves phase phase' w Fresh (Links a)
      → OsqAgrees (Some w) phase' node (told w Arrive t) × IsLawful t w Arrive
  law_arrives_behind met moves =
      let out : Stands (t.holders ++ t.waiting) w
      → ⊥ = (λ s. grind (arith, ok.queue.inside s.0 w s.1, moves.was)) in
      let stay : (u : ℕ) → phase u ≢ Fresh
      → phase' u ≡ phase u = (λ u n. moves.others u (λ e. n (grind (arith, moves.was, e)))) in (
        record {
          queue = rw⁻¹ (append_assoc t.holders t.waiting (w ∷ []))
              (queue_arrives_behind ok.queue moves met);
          front = elim ok.front [
            | inl n ↦ absurd (grind (arith, ok.queue.no_tail (rw (n.holders, n.waiting) refl), met))
            | inr f ↦ elim f [
              | inl o ↦ inr (inl (record {
                holder = o.holder;
                holders = o.holders;
                handed = o.handed;
                has = grind (arith, o.has, stay o.holder);
              }))
              | inr h ↦ inr (inr (record {
                next = h.next;
                holders = h.holders;
                handed = h.handed;
                first = get-append_old t.waiting w 0 h.next h.first;
                waits = grind (arith, h.waits, stay h.next);
              }))
            ]
          ];
        },
        (
          (λ e. elim ok.front [
            | inl n ↦ grind (arith, n.handed, e)
            | inr f ↦ elim f [
              | inl o ↦ grind (arith, o.handed, e)
              | inr h ↦ grind
                  (arith, h.handed, h.waits, moves.was, e)
            ]
          ]),
          (λ s. out (in_holders t.holders t.waiting w s)),
          (λ s. out (in_waiting t.holders t.waiting w s)),
        ),
      )

  -- O5, Q2 with the own flag set
  pub law_takes : (node w).flag ≡ true → Moves phase phase' w Waits Holds
      → OsqAgrees tail phase' node (told w TakeHanded t) × IsLawful t w TakeHanded
  law_takes flag moves =
      let at : slice_get (t.holders ++ t.waiting) 0 ≡ Some w =
      leads_first ok.queue w (grind (arith, moves.was)) (inr flag) in
      let n : (t.holders ≡ []) × (t.handed ≡ Some w) × (slice_get t.waiting 0 ≡ Some w) =
      elim ok.front [
        | inl n ↦ absurd (grind (arith, n.holders, n.waiting, at))
        | inr f ↦ elim f [
          | inl o ↦ let e : o.holder ≡ w =
              grind (arith, o.holders, at) in absurd (grind (arith, o.has, moves.was, e))
          | inr h ↦ let e : h.next ≡ w =
              grind (arith, h.holders, h.first, at) in
              (h.holders, grind (arith, h.handed, e), grind (arith, h.first, e))
        ]
      ] in (
        record {
          queue = let q : OsqQueueAgrees tail phase' node (t.holders ++ t.waiting) =
              queue_takes ok.queue moves flag in
              let e : t.holders ++ t.waiting ≡ (t.holders ++ w ∷ []) ++ without w t.waiting =
              rw n.0 (first_others t.waiting w n.2) in
              subst (OsqQueueAgrees tail phase' node) e q;
          front = inr
              (inl (record {
                holder = w;
                holders = rw n.0 refl;
                handed = refl;
                has =
                    grind (arith, moves.now);
              }));
        },
        (n.0, n.1, (0, n.2)),
      )

  -- X1, X5 swapped
  pub law_frees : tail ≡ Some w → Moves phase phase' w Holds Outside
      → OsqAgrees None phase' node (told w (Release None) t) × IsLawful t w (Release None)
  law_frees met moves =
      let at : slice_get (t.holders ++ t.waiting) 0 ≡ Some w =
      leads_first ok.queue w (grind (arith, moves.was)) (inl (grind (arith, moves.was))) in
      let end : slice_get (t.holders ++ t.waiting) 1 ≡ None = tail_last ok.queue 0 w at met in
      let n : (t.holders ≡ w ∷ []) × (t.handed ≡ None) = elim ok.front [
        | inl n ↦ absurd (grind (arith, n.holders, n.waiting, at))
        | inr f ↦ elim f [
          | inl o ↦ let e : o.holder ≡ w =
              grind (arith, o.holders, at) in (grind (arith, o.holders, e), o.handed)
          | inr h ↦ let e : h.next ≡ w =
              grind (arith, h.holders, h.first, at) in absurd (grind (arith, h.waits, moves.was, e))
        ]
      ] in
      let nobody : t.waiting ≡ [] = empty_list t.waiting (rw n.0 at end) in
      let gone : without w t.holders ≡ [] = rw n.0 (without_first w []) in (
        record {
          queue = queue_frees ok.queue moves met (rw (gone, n.0) (first_drops w t.waiting));
          front = inl (record { holders = gone; waiting = nobody; handed = n.1 });
        },
        (n.0, n.1),
      )

  -- X3
  pub law_hands : {node' : ℕ → Node} {x : Node} {b : ℕ} → Moves phase phase' w (Hands b) Outside
      → Moves node node' b (node b) x
      → x.flag ≡ true → x.next ≡ (node b).next
      → OsqAgrees tail phase' node' (told w (Release (Some b)) t) × IsLawful t w (Release (Some b))
  law_hands {b = b} moves writes flag next =
      let at : slice_get (t.holders ++ t.waiting) 0 ≡ Some w =
      leads_first ok.queue w (grind (arith, moves.was)) (inl (grind (arith, moves.was))) in
      let n : (t.holders ≡ w ∷ []) × (t.handed ≡ None) = elim ok.front [
        | inl n ↦ absurd (grind (arith, n.holders, n.waiting, at))
        | inr f ↦ elim f [
          | inl o ↦ let e : o.holder ≡ w =
              grind (arith, o.holders, at) in (grind (arith, o.holders, e), o.handed)
          | inr h ↦ let e : h.next ≡ w =
              grind (arith, h.holders, h.first, at) in absurd (grind (arith, h.waits, moves.was, e))
        ]
      ] in
      let gone : without w t.holders ≡ [] = rw n.0 (without_first w []) in
      let drops : Drops (t.holders ++ t.waiting) (without w t.holders ++ t.waiting) 0 =
      rw (gone, n.0) (first_drops w t.waiting) in
      let second : slice_get (t.holders ++ t.waiting) 1 ≡ Some b =
      hands-second ok.queue moves writes flag next drops in
      let first : slice_get t.waiting 0 ≡ Some b = rw n.0 at second in
      let waits : phase b ≡ Waits = hands-waits ok.queue moves writes flag next drops in (
        record {
          queue = queue_hands ok.queue moves writes flag next drops;
          front = inr (inr (record {
            next = b;
            holders = gone;
            handed = refl;
            first = first;
            waits = let d : b ≢ w = (λ e. grind (arith, waits, moves.was, e)) in grind
                (arith, waits, moves.others b d);
          }));
        },
        (n.0, n.1, (0, first)),
      )

-- who gives up stands behind another: it waits, the lock is not handed to it, and it is gone from
-- its place
record Quits (phase : ℕ → Phase) (t : Told) (w k : ℕ) : Type 0 where
  stands : Stands t.waiting w
  unhanded : t.handed ≢ Some w
  drops : Drops (t.holders ++ t.waiting) (t.holders ++ without w t.waiting) k

quits : {tail : Option ℕ} {phase : ℕ → Phase} {node : ℕ → Node} {t : Told}
    → OsqAgrees tail phase node t
    → (j w : ℕ) → slice_get (t.holders ++ t.waiting) (suc j) ≡ Some w → phase w ≢ Waits
    → Quits phase t w (suc j)
quits {phase = phase} {t = t} ok j w at busy =
    elim ok.front [
      | inl n ↦ absurd (grind (arith, n.holders, n.waiting, at))
      | inr f ↦ elim f [
        | inl o ↦
            let here : slice_get t.waiting j ≡ Some w = rw o.holders at at in
            let once : (i : ℕ) → slice_get t.waiting i ≡ Some w → i ≡ j =
            (λ i h. omega (arith, ok.queue.once (suc i) (suc j) w (rw o.holders h) at)) in
            record {
              stands = (j, here);
              unhanded = λ e. grind (arith, o.handed, e);
              drops = rw o.holders (behind_drops o.holder (without_drops t.waiting j w here once));
            }
        | inr h ↦
            let here : slice_get t.waiting (suc j) ≡ Some w = rw h.holders at at in
            let once : (i : ℕ) → slice_get t.waiting i ≡ Some w → i ≡ suc j =
            (λ i q. ok.queue.once i (suc j) w (rw h.holders q) at) in
            record {
              stands = (suc j, here);
              unhanded = λ e. busy (grind (arith, h.handed, h.waits, e));
              drops = rw h.holders (without_drops t.waiting (suc j) w here once);
            }
      ]
    ]

-- the front stays where one behind it gives up
front_quits : {phase phase' : ℕ → Phase} {t : Told} {w : ℕ} {r : Phase}
    → NobodyIsThere t ⊎ OneHolds phase t ⊎ OneIsHanded phase t
    → Stands t.waiting w → Moves phase phase' w r Outside → holds r ≡ false → r ≢ Waits
    → NobodyIsThere (told w Quit t) ⊎ OneHolds phase' (told w Quit t)
    ⊎ OneIsHanded phase' (told w Quit t)
front_quits {phase = phase} {phase' = phase'} {t = t} {w = w} front stands moves low busy =
    elim front [
      | inl n ↦ absurd (grind (arith, n.waiting, stands))
      | inr f ↦ elim f [
        | inl o ↦
            let d : o.holder ≢ w = (λ e. grind (arith, o.has, moves.was, low, e)) in
            inr (inl (record {
              holder = o.holder;
              holders = o.holders;
              handed = o.handed;
              has =
                  grind (arith, o.has, moves.others o.holder d);
            }))
        | inr h ↦
            let d : h.next ≢ w = (λ e. busy (grind (arith, h.waits, moves.was, e))) in
            inr (inr (record {
              next = h.next;
              holders = h.holders;
              handed = h.handed;
              first = keeps t.waiting h.next d h.first;
              waits = grind (arith, h.waits, moves.others h.next d);
            }))
      ]
    ]
  where
    keeps : (xs : List ℕ) (q : ℕ) → q ≢ w → slice_get xs 0 ≡ Some q
        → slice_get (without w xs) 0 ≡ Some q
    keeps [] q d h = cc
    keeps (y ∷ ys) q d h =
        let ne : y ≢ w = (λ e. d (grind (arith, h, e))) in rw (without_later w y ys ne) h

module _ {tail : Option ℕ} {phase phase' : ℕ → Phase} {node : ℕ → Node} {t : Told} {w : ℕ}
    (ok : OsqAgrees tail phase node t) where
  -- Q5 swapped
  pub law_withdraws : {a : ℕ} → tail ≡ Some w → Moves phase phase' w (Cuts a) Outside
      → OsqAgrees (Some a) phase' node (told w Quit t) × IsLawful t w Quit
  law_withdraws {a = a} met moves =
      let j = stands_behind ok.queue w (grind (arith, moves.was)) (grind (arith, moves.was)) in
      let p = ok.queue.pair j.0 j.1 w j.2 j.3 in
      let s : j.1 ≡ a = grind (arith, p.before, moves.was) in
      let busy : phase w ≢ Waits = (λ e. grind (arith, moves.was, e)) in
      let q = quits ok j.0 w j.3 busy in (
        record {
          queue = queue_withdraws ok.queue moves met j.0 (grind (arith, j.2, s)) j.3 q.drops;
          front = front_quits ok.front q.stands moves refl (λ e. grind (arith, e));
        },
        (q.unhanded, q.stands),
      )

  -- Q9
  pub law_unlinks : {node' : ℕ → Node} {x : Node} {a b : ℕ}
      → Moves phase phase' w (Bridges a b) Outside → Moves node node' a (node a) x
      → x.flag ≡ (node a).flag → x.next ≡ Some b
      → OsqAgrees tail phase' node' (told w Quit t) × IsLawful t w Quit
  law_unlinks {a = a} moves writes flag next =
      let j = stands_behind ok.queue w (grind (arith, moves.was)) (grind (arith, moves.was)) in
      let p = ok.queue.pair j.0 j.1 w j.2 j.3 in
      let s : j.1 ≡ a = grind (arith, p.before, moves.was) in
      let busy : phase w ≢ Waits = (λ e. grind (arith, moves.was, e)) in
      let q = quits ok j.0 w j.3 busy in (
        record {
          queue = queue_unlinks ok.queue moves writes flag next j.0
              (grind (arith, j.2, s)) j.3 q.drops;
          front = front_quits ok.front q.stands moves refl (λ e. grind (arith, e));
        },
        (q.unhanded, q.stands),
      )
