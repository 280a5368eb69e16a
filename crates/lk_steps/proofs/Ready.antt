-- What a machine on which acts are told has.
use Rattle.std.proofs.Common.{◌≡◌, ◌<◌, ◌+◌, ℕ, zero, suc, [], sym, ap, refl, ◌∙◌, subst, arith, length, replicate}
use Rattle.lk_rows.specs.Acts.{next}
use Rattle.lk_rows.specs.Machine.{Machine}
use Rattle.lk_rows.specs.Programs.{IsLawfulSetup}
use Rattle.lk_rows.specs.Run.{at_rest, machine_after}
use Rattle.lk_rows.specs.declared.setup.Setup.{Setup}
use Rattle.lk_names.specs.History.{history_of}
use Rattle.lk_names.specs.declared.events.Act.{Act}
use Rattle.lk_law.specs.Sound.{IsSound}
use Rattle.lk_law.specs.MachineLaws.{RestShows}
use Rattle.lk_steps.specs.Shown.{CanShow}
use Rattle.lk_steps.specs.Told.{CanGoOn}

-- a sound machine with so many locks can be shown
pub shown : (m : Machine) (locks p : ℕ) → IsSound m → locks ≡ length m.setup.locks.items → p < length m.cpus → CanShow m locks p
shown m locks p sound same range =
    let whole = sound.1.whole in
    let s = whole.setup in
    let c = whole.cpus in
    record {
      top = whole.tops p range;
      programs = record { task = omega (arith, s.progs); handlers = omega (arith, s.irqs); few = s.handlers p };
      locks = omega (arith, whole.locks);
    }

-- a machine at rest can go on
pub ready_at_rest : (setup : Setup) (m : Machine) (locks : ℕ) → m ≡ at_rest setup → RestShows → IsLawfulSetup setup → locks ≡ length setup.locks.items
    → CanGoOn (record { machine = m; locks = locks; acts = 0 })
ready_at_rest setup m locks same shows lawful count =
    subst (λ x. CanGoOn (record { machine = x; locks = locks; acts = 0 })) (sym same) (record {
      sound = ((λ l. history_of l []), (shows setup lawful).shows);
      few = omega arith;
      counts = record {
        lock_pending = omega arith;
        lock_slowpath = omega arith;
        lock_use_node2 = omega arith;
        lock_use_node3 = omega arith;
        lock_use_node4 = omega arith;
        lock_no_node = omega arith;
        pv_lock_stealing = omega arith;
        pv_wait_node = omega arith;
        pv_wait_head = omega arith;
        pv_kick_unlock = omega arith;
      };
      locks = count;
    })

-- an act that is made once more
made_again : (m : Machine) (act : Act) (made : ℕ)
    → machine_after m (replicate (suc made) act) ≡ (next (machine_after m (replicate made act)) act).0
made_again m act zero = refl
made_again m act (suc made) = made_again (next m act).0 act made

pub one_more : (m : Machine) (act : Act) (made : ℕ)
    → machine_after m (replicate (made + 1) act) ≡ (next (machine_after m (replicate made act)) act).0
one_more m act made =
    let more : made + 1 ≡ suc made = omega arith in
    ap (λ k. machine_after m (replicate k act)) more ∙ made_again m act made
