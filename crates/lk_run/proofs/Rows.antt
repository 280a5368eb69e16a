-- Where the rows of a call of `lock` lead, by what they meet.
use Rattle.std.proofs.Common.{◌≡◌, ◌≢◌, ℕ, ◌<◌, ◌≤◌, Option, Some, None, Bool, true, false, refl}
use Rattle.std.proofs.Common.{sym, ◌∙◌, subst, if◌then◌else◌, ◌&&◌, not, nat_lt, is_some}
use Rattle.std.proofs.lemmas.Bool.{lt-ltb, le-ltb}
use Rattle.lk_run.proofs.Names.{Fields, NodeName, Mode, Cna, Native, Pv, Virt, is_node, Flag, Go}
use Rattle.lk_run.proofs.Names.{Second, Unset, Frame, C1, F1, G1, G4, G6, G7, G8, G9, G10, G11, N1}
use Rattle.lk_run.proofs.Names.{P0, P1, P2, P3, P4, V1, after_fast, after_pending, is_unlocked}
use Rattle.lk_run.proofs.Names.{to_queue, if-false, if-true, moves_aside, node_in, Flagged, Linked}
use Rattle.lk_run.proofs.Names.{Named, Number, Word, Outlook, Any, Fronts, Owns, Precedes}
use Rattle.lk_rows.specs.{Moves.node_of, declared.parts.Pc.TheVariants.{V2, G2, G3, G5, N2}}
use Rattle.lk_rows.specs.{rows.Queue.own_node, rows.Spin.is_free}
use Rattle.lk_law.specs.Agree.{halts}
use Rattle.lk_run.proofs.Ways.{Leads, Ends}
use Rattle.lk_run.specs.Frames.{Follows}

-- whether the head is alone
sole_by : (f : Frame) (y : Fields) (own : NodeName) → f.me ≡ Some own → (b : Bool)
    → (is_unlocked y.locked && not y.pending && is_node y.tail own) ≡ b
    → (is_unlocked y.locked && not y.pending && is_node y.tail (node_of f.me)) ≡ b
sole_by f y own me b e = (λ i. is_unlocked y.locked && not y.pending && is_node y.tail (node_of (me i))) ∙ e

module _ (mode : Mode) (p : ℕ) {z : Outlook} (f : Frame) where
  -- on the word of the lock
  module _ (y : Fields) where
    -- F1
    pub fast_takes : is_free y ≡ true → Ends mode p z F1 f (Word y)
    fast_takes e = record { place = rw e refl; grip = rw e refl; own = refl; lock = rw e refl; after = rw e refl }

    pub fast_goes : is_free y ≡ false → Leads mode p z F1 f (Word y) (after_fast mode y) Any
    fast_goes e = record { place = rw e refl; grip = rw e refl; lock = rw e refl; after = rw e refl; has = tt }

    -- V1
    pub loop_sees : is_free y ≡ true → Leads mode p z V1 f (Word y) V2 Any
    loop_sees e = record { place = rw e refl; grip = refl; lock = refl; after = refl; has = tt }

    pub loop_waits : is_free y ≡ false → Leads mode p z V1 f (Word y) V1 Any
    loop_waits e = record { place = rw e refl; grip = refl; lock = refl; after = refl; has = tt }

    -- V2
    pub loop_takes : is_free y ≡ true → Ends mode p z V2 f (Word y)
    loop_takes e = record { place = rw e refl; grip = rw e refl; own = refl; lock = rw e refl; after = rw e refl }

    pub loop_misses : is_free y ≡ false → Leads mode p z V2 f (Word y) V1 Any
    loop_misses e = record { place = rw e refl; grip = rw e refl; lock = rw e refl; after = rw e refl; has = tt }

    -- P0
    pub again_goes : Leads mode p z P0 f (Word y) (to_queue y) Any
    again_goes = record { place = refl; grip = refl; lock = refl; after = refl; has = tt }

    -- P1
    pub pends : Leads mode p z P1 f (Word y) (after_pending y) Any
    pends = record { place = refl; grip = refl; lock = refl; after = refl; has = tt }

    -- P2
    pub clears : Leads mode p z P2 f (Word y) G1 Any
    clears = record { place = refl; grip = refl; lock = refl; after = refl; has = tt }

    -- P3
    pub watch_sees : is_unlocked y.locked ≡ true → Leads mode p z P3 f (Word y) P4 Any
    watch_sees e = record { place = rw e refl; grip = refl; lock = refl; after = refl; has = tt }

    pub watch_waits : is_unlocked y.locked ≡ false → Leads mode p z P3 f (Word y) P3 Any
    watch_waits e = record { place = rw e refl; grip = refl; lock = refl; after = refl; has = tt }

    -- P4
    pub pending_takes : Ends mode p z P4 f (Word y)
    pending_takes = record { place = refl; grip = refl; own = refl; lock = refl; after = refl }

    -- G2, of a frame that meets a condition which a look leaves
    module _ (own : NodeName) (has : Owns own f) where
      pub glance_sees : is_free y ≡ true → Leads mode p z G2 f (Word y) G3 (Owns own)
      glance_sees e = record { place = rw e refl; grip = refl; lock = refl; after = refl; has = record { me = has.me; second = has.second } }

      pub glance_misses : is_free y ≡ false → Leads mode p z G2 f (Word y) G4 (Owns own)
      glance_misses e = record { place = rw e refl; grip = refl; lock = refl; after = refl; has = record { me = has.me; second = has.second } }

      -- G3
      pub retry_takes : is_free y ≡ true → Ends mode p z G3 f (Word y)
      retry_takes e = record { place = rw e refl; grip = rw e refl; own = refl; lock = rw e refl; after = rw e refl }

      pub retry_misses : is_free y ≡ false → Leads mode p z G3 f (Word y) G4 (Owns own)
      retry_misses e = record { place = rw e refl; grip = rw e refl; lock = rw e refl; after = rw e refl; has = record { me = rw e has.me; second = rw e has.second } }

      -- G4
      pub arrives_first : halts mode ≡ false → y.tail ≡ None → Leads mode p z G4 f (Word y) G7 (Owns own)
      arrives_first awake e = by mode awake
        where
          by : (m : Mode) → halts m ≡ false → Leads m p z G4 f (Word y) G7 (Owns own)
          by Virt h = record { place = rw e refl; grip = rw e refl; lock = rw e refl; after = rw e refl; has = record { me = rw e has.me; second = rw e has.second } }
          by Native h = record { place = rw e refl; grip = rw e refl; lock = rw e refl; after = rw e refl; has = record { me = rw e has.me; second = rw e has.second } }
          by Cna h = record { place = rw e refl; grip = rw e refl; lock = rw e refl; after = rw e refl; has = record { me = rw e has.me; second = rw e has.second } }
          by Pv h = absurd (cc h)

      pub arrives_behind : (prev : NodeName) → halts mode ≡ false → y.tail ≡ Some prev → Leads mode p z G4 f (Word y) G5 (Follows own prev)
      arrives_behind prev awake e = by mode awake
        where
          by : (m : Mode) → halts m ≡ false → Leads m p z G4 f (Word y) G5 (Follows own prev)
          by Virt h = record { place = rw e refl; grip = rw e refl; lock = rw e refl; after = rw e refl; has = record { owns = record { me = rw e has.me; second = rw e has.second }; prev = rw e refl } }
          by Native h = record { place = rw e refl; grip = rw e refl; lock = rw e refl; after = rw e refl; has = record { owns = record { me = rw e has.me; second = rw e has.second }; prev = rw e refl } }
          by Cna h = record { place = rw e refl; grip = rw e refl; lock = rw e refl; after = rw e refl; has = record { owns = record { me = rw e has.me; second = rw e has.second }; prev = rw e refl } }
          by Pv h = absurd (cc h)

    -- G7
    module _ (own : NodeName) (second : Option NodeName) (has : Fronts own second f) where
      module _ (b t : Bool) (open_is : (is_unlocked y.locked && not y.pending) ≡ b)
          (tail_is : (is_node y.tail own && not (is_some second)) ≡ t) where
        pub front_looks : Leads mode p z G7 f (Word y) (if b then (if t then G8 else G9) else G7) (Fronts own second)
        front_looks = record { place = place; grip = refl; lock = refl; after = refl; has = record { me = has.me; second = has.second } }
          where
            sole : (is_node y.tail (node_of f.me) && not (is_some f.second)) ≡ t
            sole = (λ i. is_node y.tail (node_of (has.me i)) && not (is_some (has.second i))) ∙ tail_is

            place : (Rattle.lk_domain.specs.Paths.next_frame mode p z G7 f (Word y)).place ≡ Some (if b then (if t then G8 else G9) else G7)
            place = λ i. Some (if open_is i then (if sole i then G8 else G9) else G7)

      -- G8
      pub sole_takes : (is_unlocked y.locked && not y.pending && is_node y.tail own) ≡ true → Ends mode p z G8 f (Word y)
      sole_takes e = record { place = rw (sole_by f y own has.me true e) refl; grip = rw (sole_by f y own has.me true e) refl; own = refl; lock = rw (sole_by f y own has.me true e) refl; after = rw (sole_by f y own has.me true e) refl }

      pub sole_misses : (is_unlocked y.locked && not y.pending && is_node y.tail own) ≡ false → Leads mode p z G8 f (Word y) G9 (Fronts own second)
      sole_misses e = record { place = rw (sole_by f y own has.me false e) refl; grip = rw (sole_by f y own has.me false e) refl; lock = rw (sole_by f y own has.me false e) refl; after = rw (sole_by f y own has.me false e) refl; has = record { me = rw (sole_by f y own has.me false e) has.me; second = rw (sole_by f y own has.me false e) has.second } }

      -- G9
      pub head_takes : moves_aside mode ≡ false → Leads mode p z G9 f (Word y) G10 (Fronts own second)
      head_takes plain = by mode plain
        where
          by : (m : Mode) → moves_aside m ≡ false → Leads m p z G9 f (Word y) G10 (Fronts own second)
          by Virt h = record { place = refl; grip = refl; lock = refl; after = refl; has = record { me = has.me; second = has.second } }
          by Native h = record { place = refl; grip = refl; lock = refl; after = refl; has = record { me = has.me; second = has.second } }
          by Pv h = record { place = refl; grip = refl; lock = refl; after = refl; has = record { me = has.me; second = has.second } }
          by Cna h = absurd (cc h)

      pub head_chooses : moves_aside mode ≡ true → Leads mode p z G9 f (Word y) C1 (Fronts own second)
      head_chooses aside = by mode aside
        where
          by : (m : Mode) → moves_aside m ≡ true → Leads m p z G9 f (Word y) C1 (Fronts own second)
          by Cna h = record { place = refl; grip = refl; lock = refl; after = refl; has = record { me = has.me; second = has.second } }
          by Virt h = absurd (cc h)
          by Native h = absurd (cc h)
          by Pv h = absurd (cc h)

    -- N1
    pub bare_sees : is_free y ≡ true → Leads mode p z N1 f (Word y) N2 Any
    bare_sees e = record { place = rw e refl; grip = refl; lock = refl; after = refl; has = tt }

    pub bare_waits : is_free y ≡ false → Leads mode p z N1 f (Word y) N1 Any
    bare_waits e = record { place = rw e refl; grip = refl; lock = refl; after = refl; has = tt }

    -- N2
    pub bare_takes : is_free y ≡ true → Ends mode p z N2 f (Word y)
    bare_takes e = record { place = rw e refl; grip = rw e refl; own = refl; lock = rw e refl; after = rw e refl }

    pub bare_misses : is_free y ≡ false → Leads mode p z N2 f (Word y) N1 Any
    bare_misses e = record { place = rw e refl; grip = rw e refl; lock = rw e refl; after = rw e refl; has = tt }

  -- G1
  pub enters : halts mode ≡ false → (own : NodeName) (i : ℕ) → own.cpu ≡ p → own.index ≡ i → own.index < 4
      → Leads mode p z G1 f (Number i) G2 (Owns own)
  enters awake own i cpu index low = by mode awake
    where
      is : own_node p i ≡ Some own
      is = if-true (nat_lt i 4) (Some (record { cpu = p; index = i })) None (lt-ltb i 4 (subst (λ n. n < 4) index low))
          ∙ (λ j. Some (record { cpu = (sym cpu) j; index = (sym index) j }))

      by : (m : Mode) → halts m ≡ false → Leads m p z G1 f (Number i) G2 (Owns own)
      by Virt h = record { place = rw is refl; grip = refl; lock = refl; after = refl; has = record { me = is; second = refl } }
      by Native h = record { place = rw is refl; grip = refl; lock = refl; after = refl; has = record { me = is; second = refl } }
      by Cna h = record { place = rw is refl; grip = refl; lock = refl; after = refl; has = record { me = is; second = refl } }
      by Pv h = absurd (cc h)

  pub enters_bare : halts mode ≡ false → (i : ℕ) → 4 ≤ i → Leads mode p z G1 f (Number i) N1 Any
  enters_bare awake i high = by mode awake
    where
      is : own_node p i ≡ None
      is = if-false (nat_lt i 4) (Some (record { cpu = p; index = i })) None (le-ltb i 4 high)

      by : (m : Mode) → halts m ≡ false → Leads m p z G1 f (Number i) N1 Any
      by Virt h = record { place = rw is refl; grip = refl; lock = refl; after = refl; has = tt }
      by Native h = record { place = rw is refl; grip = refl; lock = refl; after = refl; has = tt }
      by Cna h = record { place = rw is refl; grip = refl; lock = refl; after = refl; has = tt }
      by Pv h = absurd (cc h)

  -- G5
  pub links : halts mode ≡ false → (own prev : NodeName) → Follows own prev f → Leads mode p z G5 f (Named None) G6 (Owns own)
  links awake own prev has = by mode awake
    where
      by : (m : Mode) → halts m ≡ false → Leads m p z G5 f (Named None) G6 (Owns own)
      by Virt h = record { place = refl; grip = refl; lock = refl; after = refl; has = record { me = has.owns.me; second = has.owns.second } }
      by Native h = record { place = refl; grip = refl; lock = refl; after = refl; has = record { me = has.owns.me; second = has.owns.second } }
      by Cna h = record { place = refl; grip = refl; lock = refl; after = refl; has = record { me = has.owns.me; second = has.owns.second } }
      by Pv h = absurd (cc h)

  module _ (own : NodeName) (has : Owns own f) where
    -- G6
    pub flag_waits : (x : Flag) → x ≡ Unset → Leads mode p z G6 f (Flagged x) G6 (Owns own)
    flag_waits x e = record { place = rw e refl; grip = rw e refl; lock = rw e refl; after = rw e refl; has = record { me = rw e has.me; second = rw e has.second } }

    pub flag_leads : (x : Flag) → x ≢ Unset → Leads mode p z G6 f (Flagged x) G7 (Fronts own (node_in x))
    flag_leads Unset ne = absurd (ne refl)
    flag_leads Go ne = record { place = refl; grip = refl; lock = refl; after = refl; has = record { me = has.me; second = has.second } }
    flag_leads (Second m) ne = record { place = refl; grip = refl; lock = refl; after = refl; has = record { me = has.me; second = refl } }

  -- G10
  module _ (own : NodeName) (second : Option NodeName) (has : Fronts own second f) where
    pub next_waits : (x : Option NodeName) {i : Bool} → x ≡ None → Leads mode p z G10 f (Linked x i) G10 (Fronts own second)
    next_waits x e = record { place = rw e refl; grip = rw e refl; lock = rw e refl; after = rw e refl; has = record { me = rw e has.me; second = rw e has.second } }

    pub next_sees : (x : Option NodeName) {i : Bool} (to : NodeName) → x ≡ Some to → Leads mode p z G10 f (Linked x i) G11 (Precedes own second to)
    next_sees x to e =
        record {
          place = rw e refl;
          grip = rw e refl;
          lock = rw e refl;
          after = rw e refl;
          has = record { fronts = record { me = rw e has.me; second = rw e has.second }; next = rw e refl };
        }

  -- G11
  pub hands : (x : Flag) → Ends mode p z G11 f (Flagged x)
  hands x = record { place = refl; grip = refl; own = refl; lock = refl; after = refl }
