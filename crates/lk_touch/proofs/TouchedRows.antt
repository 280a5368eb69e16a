-- A step does the same among other processors than those that it touches.
use Rattle.std.proofs.Common.{◌≡◌, ℕ, ◌<◌, Option, Some, None, Bool, true, false, List}
use Rattle.std.proofs.Common.{ap, refl, sym, ◌∙◌, subst, length, get_or, set, set-set, get_or-set_same, get_or-set_other, inl, inr}
use Rattle.std.proofs.lemmas.Bool.{cases_eq}
use Rattle.std.proofs.lemmas.List.{length-set, set_comm}
use Rattle.std.specs.Prelude.{if◌then◌else◌}
use Rattle.lk_names.specs.declared.events.What.TheVariants as what
use Rattle.lk_word.specs.declared.spin_word.NodeName.{NodeName}
use Rattle.lk_rows.specs.declared.parts.Node.{Node}
use Rattle.lk_rows.specs.declared.parts.Pc.{Pc}
use Rattle.lk_rows.specs.declared.parts.Pc.TheVariants.{F1, T1, T2, U1, V1, V2, P0, P1, P2, P3, P4, G1, G2, G3, G4, G5}
use Rattle.lk_rows.specs.declared.parts.Pc.TheVariants.{G6, G7, G8, G9, G10, G11, N1, N2, C1, C2, C3, C4, C5, C6, C7, C8}
use Rattle.lk_rows.specs.declared.parts.Pc.TheVariants.{C9, C10, H1, H2, W1, W2, W3, W4, W5, W6, W7, E1, E2, E3, E4, E5}
use Rattle.lk_rows.specs.declared.parts.Pc.TheVariants.{E6, E7, E8, E9, E10, E11, E12, E13, E14, E15, K1, K2, K3, U2, U3, U4}
use Rattle.lk_rows.specs.declared.parts.Pc.TheVariants.{U5, R1, R2, R3, R4, R5, Wr1, Wr2, Wr3, Wr4, Wr5, Wr6, Y1, Y2, Y3, Y4}
use Rattle.lk_rows.specs.declared.parts.Pc.TheVariants.{Y5, Z1, Z2}
use Rattle.lk_rows.specs.declared.parts.Frame.{Frame}
use Rattle.lk_rows.specs.Machine.{Machine, CpuState, cpu_at, lock_at, word_at, rw_at, entry_at, node_at, queued_at, preempted_at}
use Rattle.lk_rows.specs.Machine.{halted_at, kicked_at, top_frame, set_cpu, set_top}
use Rattle.lk_rows.specs.Machine.{set_halted, set_kicked, no_cpu}
use Rattle.lk_rows.specs.Moves.{node_of}
use Rattle.lk_rows.specs.Row.{Answer}
use Rattle.lk_rows.specs.rows.Spin.{spin_row}
use Rattle.lk_rows.specs.rows.Queue.{queue_row, entry_row, flag_row, next_row}
use Rattle.lk_rows.specs.rows.Cna.{search_row, second_row, handover_row, promotion_row}
use Rattle.lk_rows.specs.rows.Pv.{pv_row, pv_flag_row, pv_next_row, state_row, hash_row, halt_row, kick_row}
use Rattle.lk_rows.specs.rows.Rw.{rw_row}
use Rattle.lk_rows.specs.TopRow.{Target, SpinWord, QueueWord, Queued, FlagOf, NextOf, ChoiceWord, ChoiceFlag, ChoiceNext, SecondTailOf}
use Rattle.lk_rows.specs.TopRow.{PvWord, PvFlag, PvNext, KickOf, sight_at, on_second, on_kicked}
use Rattle.lk_rows.specs.TopRow.{StateOf, HashEntry, Halted, RwWord, target, row_on, row_at, row, on_flag, on_next}
use Rattle.lk_rows.specs.TopRow.{on_state, on_halted, on_queued}
use Rattle.lk_rows.specs.Acts.{after_halt, idle, woken, kicked_awake, step_halted, step}
use Rattle.lk_touch.specs.Touching.{StepsStayAmong, Touches, cpu_of, other_at, other_of, with_both}
use Rattle.lk_touch.proofs.TouchingRows.{spin-near, queue-near, entry-near, flag-near}
use Rattle.lk_touch.proofs.TouchingRows.{next-near, promotion-near, pv-near, seen-near, seen_again-near, link-near}
use Rattle.lk_touch.proofs.TouchingRows.{joined-near, second-near, append-near, cut-near, flush-near, pass-near, handover-near, head-near, kick-near}
use Rattle.lk_touch.proofs.TouchingRows.{state-near, hash-near, halt-near, rw-near}
use Rattle.lk_touch.proofs.Touching.{Is, with_cpus, cpu-among, top-among, queued-among, node-among, write-among, set_top-among, put-kept, top-kept}
use Rattle.lk_touch.proofs.TouchingStores.{both, applied-among, word-among, word-kept, rw-among, rw-kept, entry-among, entry-kept, halted-among, halted-kept, stored_queued-among, stored_queued-kept, kicked-among, kicked-kept, flag-among, flag-kept, next-among, next-kept, second-among, second-kept, state-among, state-kept}

module _ (h : List CpuState → List CpuState) (p : ℕ) (isp : Is h p) where
  abbrev amid : Machine → Machine
  amid m = with_cpus h m

  -- the row at a place, by what it operates on
  module _ (m : Machine) (f : Frame) (lt : p < length m.cpus) where
    abbrev Same : Pc → Target → Type 0
    Same c t = row_on (amid m) p f c t ≡ both h p isp (row_on m p f c t)

    spin-same : (c : Pc) → Same c SpinWord
    unfolding word_at lock_at cpu_at
    spin-same c =
        let e = spin_row m.setup.mode c f (word_at m f.lock) in
        applied-among h p isp m _ _ f e (word-among h p isp m f e.stores) (word-kept h p isp m f e.stores lt)
        (spin-near (λ r. Is h r) p f m.setup.mode c (word_at m f.lock))

    queue-same : (c : Pc) → Same c QueueWord
    unfolding word_at lock_at cpu_at
    queue-same c =
        let e = queue_row m.setup.mode c f (word_at m f.lock) in
        applied-among h p isp m _ _ f e (word-among h p isp m f e.stores) (word-kept h p isp m f e.stores lt)
        (queue-near (λ r. Is h r) p f m.setup.mode c (word_at m f.lock))

    choice-same : (c : Pc) → Same c ChoiceWord
    unfolding word_at lock_at cpu_at
    choice-same c =
        let e = promotion_row c f (word_at m f.lock) in
        applied-among h p isp m _ _ f e (word-among h p isp m f e.stores) (word-kept h p isp m f e.stores lt)
        (promotion-near (λ r. Is h r) p f c (word_at m f.lock))

    pv-same : (c : Pc) → Same c PvWord
    unfolding word_at lock_at cpu_at
    pv-same c =
        let e = pv_row m.setup.spins c f (word_at m f.lock) in
        applied-among h p isp m _ _ f e (word-among h p isp m f e.stores) (word-kept h p isp m f e.stores lt)
        (pv-near (λ r. Is h r) p f m.setup.spins c (word_at m f.lock))

    rw-same : (c : Pc) → Same c RwWord
    unfolding rw_at lock_at cpu_at
    rw-same c =
        let e = rw_row m.setup.mode c f (rw_at m f.lock.index) in
        applied-among h p isp m _ _ f e (rw-among h p isp m f.lock.index e.stores) (rw-kept h p isp m f.lock.index e.stores lt)
        (rw-near (λ r. Is h r) p f m.setup.mode c (rw_at m f.lock.index))

    hash-same : (c : Pc) → Same c HashEntry
    unfolding entry_at cpu_at
    hash-same c =
        let e = hash_row c f (entry_at m f.lock) in
        applied-among h p isp m _ _ f e (entry-among h p isp m f.lock e.stores) (entry-kept h p isp m f.lock e.stores lt)
        (hash-near (λ r. Is h r) p f c (entry_at m f.lock))

    entry-same : (c : Pc) → Same c Queued
    entry-same c =
        let e = entry_row m.setup.mode p (queued_at m p) in
        ap (λ i. on_queued (amid m) p f (entry_row m.setup.mode p i)) (queued-among h p isp m)
        ∙ applied-among h p isp m _ _ f e (stored_queued-among h p isp m e.stores lt) (stored_queued-kept h p isp m e.stores lt)
        (entry-near (λ r. Is h r) p f m.setup.mode (queued_at m p))

    halt-same : (c : Pc) → Same c Halted
    unfolding halted_at
    halt-same c =
        let e = halt_row c f (halted_at m p) in
        ap (λ (x : CpuState). on_halted (amid m) p f (halt_row c f x.halted)) (cpu-among h p isp m)
        ∙ applied-among h p isp m _ _ f e (halted-among h p isp m e.stores lt) (halted-kept h p isp m e.stores lt)
        (halt-near (λ r. Is h r) p f c (halted_at m p))

    module _ (n : NodeName) (own : Is h n.cpu) (there : n.cpu < length m.cpus) where
      flag-same : Same G6 (FlagOf n)
      flag-same =
          let e = flag_row G6 f (node_at m n).flag in
          ap (λ (x : Node). on_flag (amid m) p f n (flag_row G6 f x.flag)) (node-among h p isp m n own)
          ∙ applied-among h p isp m _ _ f e (flag-among h p isp n own m lt there e.stores) (flag-kept h p isp n own m lt there e.stores)
          (flag-near (λ r. Is h r) p f (node_at m n).flag)

      next-same : Same G10 (NextOf n)
      next-same =
          let e = next_row m.setup.mode m.setup.spins G10 f (node_at m n).next in
          ap (λ (x : Node). on_next (amid m) p f n (next_row m.setup.mode m.setup.spins G10 f x.next))
          (node-among h p isp m n own)
          ∙ applied-among h p isp m _ _ f e (next-among h p isp n own m lt there e.stores) (next-kept h p isp n own m lt there e.stores)
          (next-near (λ r. Is h r) p f m.setup.mode m.setup.spins (node_at m n).next)

      seen-same : Same W1 (PvFlag n)
      seen-same =
          let e = pv_flag_row W1 f (node_at m n).flag in
          ap (λ (x : Node). on_flag (amid m) p f n (pv_flag_row W1 f x.flag)) (node-among h p isp m n own)
          ∙ applied-among h p isp m _ _ f e (flag-among h p isp n own m lt there e.stores) (flag-kept h p isp n own m lt there e.stores)
          (seen-near (λ r. Is h r) p f (node_at m n).flag)

      seen_again-same : Same W4 (PvFlag n)
      seen_again-same =
          let e = pv_flag_row W4 f (node_at m n).flag in
          ap (λ (x : Node). on_flag (amid m) p f n (pv_flag_row W4 f x.flag)) (node-among h p isp m n own)
          ∙ applied-among h p isp m _ _ f e (flag-among h p isp n own m lt there e.stores) (flag-kept h p isp n own m lt there e.stores)
          (seen_again-near (λ r. Is h r) p f (node_at m n).flag)

      link-same : (c : Pc) → Same c (PvNext n)
      link-same c =
          let e = pv_next_row c f (node_at m n).next in
          ap (λ (x : Node). on_next (amid m) p f n (pv_next_row c f x.next)) (node-among h p isp m n own)
          ∙ applied-among h p isp m _ _ f e (next-among h p isp n own m lt there e.stores) (next-kept h p isp n own m lt there e.stores)
          (link-near (λ r. Is h r) p f c (node_at m n).next)

      state-same : (c : Pc) → Same c (StateOf n)
      state-same c =
          let e = state_row m.setup.spins c f (node_at m n).state in
          ap (λ (x : Node). on_state (amid m) p f n (state_row m.setup.spins c f x.state)) (node-among h p isp m n own)
          ∙ applied-among h p isp m _ _ f e (state-among h p isp n own m lt there e.stores) (state-kept h p isp n own m lt there e.stores)
          (state-near (λ r. Is h r) p f m.setup.spins c (node_at m n).state)

      joined-same : Same G5 (NextOf n)
      joined-same =
          let e = next_row m.setup.mode m.setup.spins G5 f (node_at m n).next in
          ap (λ (x : Node). on_next (amid m) p f n (next_row m.setup.mode m.setup.spins G5 f x.next))
          (node-among h p isp m n own)
          ∙ applied-among h p isp m _ _ f e (next-among h p isp n own m lt there e.stores) (next-kept h p isp n own m lt there e.stores)
          (joined-near (λ r. Is h r) p f m.setup.mode m.setup.spins (node_at m n).next)

      second-same : (c : Pc) → Same c (SecondTailOf n)
      second-same c =
          let e = second_row c f (node_at m n).second_tail in
          ap (λ (x : Node). on_second (amid m) p f n (second_row c f x.second_tail)) (node-among h p isp m n own)
          ∙ applied-among h p isp m _ _ f e (second-among h p isp n own m lt there e.stores) (second-kept h p isp n own m lt there e.stores)
          (second-near (λ r. Is h r) p f c (node_at m n).second_tail)

      append-same : Same C4 (ChoiceNext n)
      append-same =
          let e = search_row (sight_at m p f) C4 f (node_at m n).next in
          ap (λ (x : Node). on_next (amid m) p f n (search_row (sight_at m p f) C4 f x.next)) (node-among h p isp m n own)
          ∙ applied-among h p isp m _ _ f e (next-among h p isp n own m lt there e.stores) (next-kept h p isp n own m lt there e.stores)
          (append-near (λ r. Is h r) p f (sight_at m p f) (node_at m n).next)

      cut-same : Same C5 (ChoiceNext n)
      cut-same =
          let e = search_row (sight_at m p f) C5 f (node_at m n).next in
          ap (λ (x : Node). on_next (amid m) p f n (search_row (sight_at m p f) C5 f x.next)) (node-among h p isp m n own)
          ∙ applied-among h p isp m _ _ f e (next-among h p isp n own m lt there e.stores) (next-kept h p isp n own m lt there e.stores)
          (cut-near (λ r. Is h r) p f (sight_at m p f) (node_at m n).next)

      flush-same : Same C9 (ChoiceNext n)
      flush-same =
          let e = search_row (sight_at m p f) C9 f (node_at m n).next in
          ap (λ (x : Node). on_next (amid m) p f n (search_row (sight_at m p f) C9 f x.next)) (node-among h p isp m n own)
          ∙ applied-among h p isp m _ _ f e (next-among h p isp n own m lt there e.stores) (next-kept h p isp n own m lt there e.stores)
          (flush-near (λ r. Is h r) p f (sight_at m p f) (node_at m n).next)

      pass-same : Is h (node_of f.y).cpu → Same G11 (FlagOf n)
      pass-same to =
          let e = flag_row G11 f (node_at m n).flag in
          ap (λ (x : Node). on_flag (amid m) p f n (flag_row G11 f x.flag)) (node-among h p isp m n own)
          ∙ applied-among h p isp m _ _ f e (flag-among h p isp n own m lt there e.stores) (flag-kept h p isp n own m lt there e.stores)
          (pass-near (λ r. Is h r) p f (node_at m n).flag to)

      handover-same : Is h (node_of f.y).cpu → Same C8 (ChoiceFlag n)
      handover-same to =
          let e = handover_row C8 f (node_at m n).flag in
          ap (λ (x : Node). on_flag (amid m) p f n (handover_row C8 f x.flag)) (node-among h p isp m n own)
          ∙ applied-among h p isp m _ _ f e (flag-among h p isp n own m lt there e.stores) (flag-kept h p isp n own m lt there e.stores)
          (handover-near (λ r. Is h r) p f (node_at m n).flag to)

      head-same : Is h (node_of f.y).cpu → Same E15 (PvFlag n)
      head-same to =
          let e = pv_flag_row E15 f (node_at m n).flag in
          ap (λ (x : Node). on_flag (amid m) p f n (pv_flag_row E15 f x.flag)) (node-among h p isp m n own)
          ∙ applied-among h p isp m _ _ f e (flag-among h p isp n own m lt there e.stores) (flag-kept h p isp n own m lt there e.stores)
          (head-near (λ r. Is h r) p f (node_at m n).flag to)

    kick-same : (q : ℕ) → Is h q → q < length m.cpus → (c : Pc) → Same c (KickOf q)
    unfolding kicked_at
    kick-same q is there c =
        let e = kick_row c f (kicked_at m q) in
        ap (λ (x : CpuState). on_kicked (amid m) p f q (kick_row c f x.kicked)) (is.cpu m)
        ∙ applied-among h p isp m _ _ f e (kicked-among h p isp q is m e.stores there) (kicked-kept h p isp q m e.stores lt)
        (kick-near (λ r. Is h r) p f c (kicked_at m q))

    module _ (q : ℕ) (isq : Is h q) (there : q < length m.cpus) where
      -- the processor of a register is the other one
      named : (n : Option NodeName) → cpu_of n ≡ Some q → q ≡ (node_of n).cpu
      named None is = cc
      named (Some n) is = cc

      other : (n : Option NodeName) → cpu_of n ≡ Some q → Is h (node_of n).cpu
      other n is = subst (λ (r : ℕ). Is h r) (named n is) isq

      within : (n : Option NodeName) → cpu_of n ≡ Some q → (node_of n).cpu < length m.cpus
      within n is = subst (λ (r : ℕ). r < length m.cpus) (named n is) there

      row_on-same : (c : Pc) → other_of c f p ≡ Some q → Same c (target c f)
      row_on-same F1 near = spin-same F1
      row_on-same T1 near = spin-same T1
      row_on-same T2 near = spin-same T2
      row_on-same U1 near = spin-same U1
      row_on-same V1 near = spin-same V1
      row_on-same V2 near = spin-same V2
      row_on-same P0 near = spin-same P0
      row_on-same P1 near = spin-same P1
      row_on-same P2 near = spin-same P2
      row_on-same P3 near = spin-same P3
      row_on-same P4 near = spin-same P4
      row_on-same G1 near = entry-same G1
      row_on-same G2 near = queue-same G2
      row_on-same G3 near = queue-same G3
      row_on-same G4 near = queue-same G4
      row_on-same G5 near = joined-same (node_of f.prev) (other f.prev near) (within f.prev near)
      row_on-same G6 near = flag-same (node_of f.me) (other f.me near) (within f.me near)
      row_on-same G7 near = queue-same G7
      row_on-same G8 near = queue-same G8
      row_on-same G9 near = queue-same G9
      row_on-same G10 near = next-same (node_of f.me) (other f.me near) (within f.me near)
      row_on-same G11 near = pass-same (node_of f.y) (other f.y near) (within f.y near) (other f.y near)
      row_on-same N1 near = queue-same N1
      row_on-same N2 near = queue-same N2
      row_on-same C1 near = cc
      row_on-same C2 near = cc
      row_on-same C3 near = second-same (node_of f.second) (other f.second near) (within f.second near) C3
      row_on-same C4 near = append-same (node_of f.t) (other f.t near) (within f.t near)
      row_on-same C5 near = cut-same (node_of f.b) (other f.b near) (within f.b near)
      row_on-same C6 near = second-same (node_of f.second) (other f.second near) (within f.second near) C6
      row_on-same C7 near = cc
      row_on-same C8 near = handover-same (node_of f.y) (other f.y near) (within f.y near) (other f.y near)
      row_on-same C9 near = flush-same (node_of f.t) (other f.t near) (within f.t near)
      row_on-same C10 near = choice-same C10
      row_on-same H1 near = pv-same H1
      row_on-same H2 near = pv-same H2
      row_on-same W1 near = seen-same (node_of f.me) (other f.me near) (within f.me near)
      row_on-same W2 near = state-same (node_of f.prev) (other f.prev near) (within f.prev near) W2
      row_on-same W3 near = state-same (node_of f.me) (other f.me near) (within f.me near) W3
      row_on-same W4 near = seen_again-same (node_of f.me) (other f.me near) (within f.me near)
      row_on-same W5 near = state-same (node_of f.me) (other f.me near) (within f.me near) W5
      row_on-same W6 near = halt-same W6
      row_on-same W7 near = state-same (node_of f.me) (other f.me near) (within f.me near) W7
      row_on-same E1 near = state-same (node_of f.me) (other f.me near) (within f.me near) E1
      row_on-same E2 near = state-same (node_of f.me) (other f.me near) (within f.me near) E2
      row_on-same E3 near = pv-same E3
      row_on-same E4 near = pv-same E4
      row_on-same E5 near = pv-same E5
      row_on-same E6 near = hash-same E6
      row_on-same E7 near = pv-same E7
      row_on-same E8 near = pv-same E8
      row_on-same E9 near = hash-same E9
      row_on-same E10 near = state-same (node_of f.me) (other f.me near) (within f.me near) E10
      row_on-same E11 near = pv-same E11
      row_on-same E12 near = halt-same E12
      row_on-same E13 near = pv-same E13
      row_on-same E14 near = link-same (node_of f.me) (other f.me near) (within f.me near) E14
      row_on-same E15 near = head-same (node_of f.y) (other f.y near) (within f.y near) (other f.y near)
      row_on-same K1 near = state-same (node_of f.y) (other f.y near) (within f.y near) K1
      row_on-same K2 near = pv-same K2
      row_on-same K3 near = hash-same K3
      row_on-same U2 near = pv-same U2
      row_on-same U3 near = hash-same U3
      row_on-same U4 near = pv-same U4
      row_on-same U5 near = kick-same (node_of f.target).cpu (other f.target near) (within f.target near) U5
      row_on-same R1 near = rw-same R1
      row_on-same R2 near = rw-same R2
      row_on-same R3 near = rw-same R3
      row_on-same R4 near = rw-same R4
      row_on-same R5 near = rw-same R5
      row_on-same Wr1 near = rw-same Wr1
      row_on-same Wr2 near = rw-same Wr2
      row_on-same Wr3 near = rw-same Wr3
      row_on-same Wr4 near = rw-same Wr4
      row_on-same Wr5 near = rw-same Wr5
      row_on-same Wr6 near = rw-same Wr6
      row_on-same Y1 near = rw-same Y1
      row_on-same Y2 near = rw-same Y2
      row_on-same Y3 near = rw-same Y3
      row_on-same Y4 near = rw-same Y4
      row_on-same Y5 near = rw-same Y5
      row_on-same Z1 near = rw-same Z1
      row_on-same Z2 near = rw-same Z2

      row_at-same : (c : Option Pc) → other_at c f p ≡ Some q → row_at (amid m) p f c ≡ both h p isp (row_at m p f c)
      row_at-same None near = refl
      row_at-same (Some c) near = row_on-same c near

  row-among : (m : Machine) → p < length m.cpus → (q : ℕ) → Is h q → q < length m.cpus → Touches m p q
      → row (amid m) p ≡ both h p isp (row m p)
  row-among m lt q isq there near =
      ap (λ (f : Frame). row_at (amid m) p f f.place) (top-among h p isp m)
      ∙ row_at-same m (top_frame m p) lt q isq there (top_frame m p).place near

  woken-among : (m : Machine) → p < length m.cpus → woken (amid m) p ≡ amid (woken m p)
  unfolding set_halted
  woken-among m lt =
      ap (λ (f : Frame). set_halted (set_top (amid m) p (record f { place = after_halt f.place })) p false)
      (top-among h p isp m)
      ∙ ap (λ k. set_halted k p false)
      (set_top-among h p isp m (record (top_frame m p) { place = after_halt (top_frame m p).place }) lt)
      ∙ write-among h p isp (λ c. record c { halted = false })
      (set_top m p (record (top_frame m p) { place = after_halt (top_frame m p).place })) (top-kept h p isp m _ lt)

  woken-kept : (m : Machine) → p < length m.cpus → p < length (woken m p).cpus
  unfolding set_halted
  woken-kept m lt = put-kept h p isp (set_top m p _) p _ (top-kept h p isp m _ lt)

  awake-among : (m : Machine) → p < length m.cpus → kicked_awake (amid m) p ≡ both h p isp (kicked_awake m p)
  unfolding set_kicked
  awake-among m lt =
      (λ i. (
        set_kicked (woken-among m lt i) p false,
        Some (record {
          by = record { cpu = p; ctx = (top-among h p isp m i).ctx };
          what = what.Wake (top-among h p isp m i).lock;
        }),
      ))
      ∙ (λ i. (
        write-among h p isp (λ c. record c { kicked = false }) (woken m p) (woken-kept m lt) i,
        Some (record {
          by = record { cpu = p; ctx = (top_frame m p).ctx };
          what = what.Wake (top_frame m p).lock;
        }),
      ))

  choose : (b : Bool) (x y u v : Answer) → u ≡ both h p isp x → v ≡ both h p isp y
      → (if b then u else v) ≡ both h p isp (if b then x else y)
  choose true x y u v here there = here
  choose false x y u v here there = there

  step_halted-among : (m : Machine) → p < length m.cpus → step_halted (amid m) p ≡ both h p isp (step_halted m p)
  unfolding kicked_at
  step_halted-among m lt =
      ap (λ (c : CpuState). if c.kicked then kicked_awake (amid m) p else idle (amid m)) (cpu-among h p isp m)
      ∙ choose (kicked_at m p) _ _ _ _ (awake-among m lt) refl

  step-among : (m : Machine) → p < length m.cpus → (q : ℕ) → Is h q → q < length m.cpus → Touches m p q
      → step (amid m) p ≡ both h p isp (step m p)
  unfolding preempted_at halted_at
  step-among m lt q isq there near =
      ap (λ (c : CpuState). if c.preempted then idle (amid m) else (if c.halted
      then step_halted (amid m) p else row (amid m) p)) (cpu-among h p isp m)
      ∙ choose (preempted_at m p) _ _ _ _ refl
      (choose (halted_at m p) _ _ _ _ (step_halted-among m lt) (row-among m lt q isq there near))

-- p and q among others
module _ (o : List CpuState) (p q : ℕ) (big : p < length o) (more : q < length o) where
  abbrev both_in : List CpuState → List CpuState
  both_in cs = with_both o p q cs

  p_there : q < length (set o p no_cpu)
  p_there = subst (λ (n : ℕ). q < n) (sym (length-set o p no_cpu)) more

  -- q stands there, and p
  second_read : (cs : List CpuState) → get_or (both_in cs) q no_cpu ≡ get_or cs q no_cpu
  second_read cs =
      get_or-set_same (set o p (get_or cs p no_cpu)) q (get_or cs q no_cpu) no_cpu
      (subst (λ (n : ℕ). q < n) (sym (length-set o p (get_or cs p no_cpu))) more)

  first_read : (cs : List CpuState) → get_or (both_in cs) p no_cpu ≡ get_or cs p no_cpu
  first_read cs = elim (cases_eq p q) [
    | inl e ↦ subst (λ (r : ℕ). get_or (both_in cs) r no_cpu ≡ get_or cs r no_cpu) (sym e) (second_read cs)
    | inr ne ↦
        get_or-set_other (set o p (get_or cs p no_cpu)) q p (get_or cs q no_cpu) no_cpu ne
        ∙ get_or-set_same o p (get_or cs p no_cpu) no_cpu big
  ]

  -- what is written to q, and to p
  second_put : (cs : List CpuState) (c : CpuState) → q < length cs → set (both_in cs) q c ≡ both_in (set cs q c)
  second_put cs c lt =
      let same = get_or-set_same cs q c no_cpu lt in
      set-set (set o p (get_or cs p no_cpu)) q (get_or cs q no_cpu) c
      ∙ ap (λ d. set (set o p (get_or cs p no_cpu)) q d) (sym same)
      ∙ elim (cases_eq p q) [
        | inl e ↦
            subst (λ (r : ℕ). set (set o r (get_or cs r no_cpu)) q (get_or (set cs q c) q no_cpu)
            ≡ set (set o r (get_or (set cs q c) r no_cpu)) q (get_or (set cs q c) q no_cpu)) (sym e)
            (set-set o q (get_or cs q no_cpu) (get_or (set cs q c) q no_cpu)
            ∙ sym (set-set o q (get_or (set cs q c) q no_cpu) (get_or (set cs q c) q no_cpu)))
        | inr ne ↦
            ap (λ d. set (set o p d) q (get_or (set cs q c) q no_cpu)) (sym (get_or-set_other cs q p c no_cpu ne))
      ]

  first_put : (cs : List CpuState) (c : CpuState) → p < length cs → set (both_in cs) p c ≡ both_in (set cs p c)
  first_put cs c lt = elim (cases_eq p q) [
    | inl e ↦
        subst (λ (r : ℕ). set (both_in cs) r c ≡ both_in (set cs r c)) (sym e)
        (second_put cs c (subst (λ (r : ℕ). r < length cs) e lt))
    | inr ne ↦
        sym (set_comm (set o p (get_or cs p no_cpu)) p q c (get_or cs q no_cpu) ne)
        ∙ ap (λ ds. set ds q (get_or cs q no_cpu)) (set-set o p (get_or cs p no_cpu) c)
        ∙ ap (λ d. set (set o p d) q (get_or cs q no_cpu)) (sym (get_or-set_same cs p c no_cpu lt))
        ∙ ap (λ d. set (set o p (get_or (set cs p c) p no_cpu)) q d)
        (sym (get_or-set_other cs p q c no_cpu (λ e. ne (sym e))))
  ]

  first_is : Is both_in p
  unfolding cpu_at set_cpu
  first_is = record {
    cpu = λ m. first_read m.cpus;
    put = λ m c lt. (λ i. record m { cpus = first_put m.cpus c lt i });
  }

  second_is : Is both_in q
  unfolding cpu_at set_cpu
  second_is = record {
    cpu = λ m. second_read m.cpus;
    put = λ m c lt. (λ i. record m { cpus = second_put m.cpus c lt i });
  }

pub steps_stay_among : StepsStayAmong
steps_stay_among o p q m big more low there near =
    step-among (λ cs. with_both o p q cs) p (first_is o p q big more) m low q (second_is o p q big more) there near
