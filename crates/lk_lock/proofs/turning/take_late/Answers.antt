use Rattle.std.proofs.Common.{◌≡◌, ℕ, None, false, refl, subst, sym}
use Rattle.lk_lock.proofs.Names.{Manner, Reads, Spins, Writes, Read, Write, Cpu, Domain, starting}
use Rattle.lk_run.proofs.Steps.{still_of}
use Rattle.lk_lock.proofs.AwakeSteps.{is_of}
use Rattle.lk_lock.proofs.LateSteps.{enters_late, reads_on, spins_late, spins_on, writes_on}
use Rattle.lk_lock.specs.Standing.{ComesIn, WaitsSince}
use Rattle.lk_lock.proofs.turning.take_late.Goals as goal

in_manner : (d : Domain) (m n : Manner) (l met : ℕ) (old now : Cpu) → m ≡ n → WaitsSince d m l met old now → WaitsSince d n l met old now
in_manner d m n l met old now is = subst (λ (x : Manner). WaitsSince d x l met old now) is

pub lock_slowpath-requires-clause-domain : goal.lock_slowpath-requires-clause-domain
lock_slowpath-requires-clause-domain g c =
    let since = c.requires.waits.1 in
    still_of c.args.domain.now c.requires.waits.0 c.args.cpu.now since.rest (is_of c.args.domain.now c.requires.waits.0 since.ready c.requires.awake)

pub lock_slowpath-requires-clause-begun : goal.lock_slowpath-requires-clause-begun
lock_slowpath-requires-clause-begun g c =
    let old = c.requires.waits.0 in
    record {
      start = starting old false None;
      nests_is = refl;
      at = spins_on c.args.domain.now c.requires.awake c.args.aim.lock.index c.args.met old c.args.cpu.now c.args.cpu.now
          (in_manner c.args.domain.now c.args.aim.manner Spins c.args.aim.lock.index c.args.met old c.args.cpu.now c.in-Spins.is c.requires.waits.1);
    }

pub returns-in-Spins : goal.returns-in-Spins
returns-in-Spins g c old since =
    let d = c.args.domain.now in
    let l = c.args.aim.lock.index in
    let now = c.args.cpu.now in
    let new = c.lock_slowpath.new.cpu in
    let waits = in_manner d c.args.aim.manner Spins l c.args.met old now c.in-Spins.is since in
    subst (λ (m : Manner). ComesIn d m l old new) (sym c.in-Spins.is)
    (spins_late d c.requires.awake l c.args.met old now new waits c.lock_slowpath.ensures.rest
    (c.lock_slowpath.ensures.has (starting old false None) refl (spins_on d c.requires.awake l c.args.met old now new waits)))

pub read_slowpath-requires-clause-domain : goal.read_slowpath-requires-clause-domain
read_slowpath-requires-clause-domain g c =
    let since = c.requires.waits.1 in
    still_of c.args.domain.now c.requires.waits.0 c.args.cpu.now since.rest (is_of c.args.domain.now c.requires.waits.0 since.ready c.requires.awake)

pub read_slowpath-requires-clause-begun : goal.read_slowpath-requires-clause-begun
read_slowpath-requires-clause-begun g c =
    let old = c.requires.waits.0 in
    record {
      start = starting old false None;
      nests_is = refl;
      at = reads_on c.args.domain.now c.requires.awake c.args.aim.lock.index c.args.met old c.args.cpu.now c.args.cpu.now
          (in_manner c.args.domain.now c.args.aim.manner Reads c.args.aim.lock.index c.args.met old c.args.cpu.now c.in-Reads.is c.requires.waits.1);
    }

pub returns-in-Reads : goal.returns-in-Reads
returns-in-Reads g c old since =
    let d = c.args.domain.now in
    let l = c.args.aim.lock.index in
    let now = c.args.cpu.now in
    let new = c.read_slowpath.new.cpu in
    let waits = in_manner d c.args.aim.manner Reads l c.args.met old now c.in-Reads.is since in
    subst (λ (m : Manner). ComesIn d m l old new) (sym c.in-Reads.is)
    (enters_late d c.requires.awake l c.args.met old now new Reads Read waits c.read_slowpath.ensures.rest
    (c.read_slowpath.ensures.has (starting old false None) refl (reads_on d c.requires.awake l c.args.met old now new waits)))

pub write_slowpath-requires-clause-domain : goal.write_slowpath-requires-clause-domain
write_slowpath-requires-clause-domain g c =
    let since = c.requires.waits.1 in
    still_of c.args.domain.now c.requires.waits.0 c.args.cpu.now since.rest (is_of c.args.domain.now c.requires.waits.0 since.ready c.requires.awake)

pub write_slowpath-requires-clause-begun : goal.write_slowpath-requires-clause-begun
write_slowpath-requires-clause-begun g c =
    let old = c.requires.waits.0 in
    record {
      start = starting old false None;
      nests_is = refl;
      at = writes_on c.args.domain.now c.requires.awake c.args.aim.lock.index c.args.met old c.args.cpu.now c.args.cpu.now
          (in_manner c.args.domain.now c.args.aim.manner Writes c.args.aim.lock.index c.args.met old c.args.cpu.now c.in-Writes.is c.requires.waits.1);
    }

pub returns-in-Writes : goal.returns-in-Writes
returns-in-Writes g c old since =
    let d = c.args.domain.now in
    let l = c.args.aim.lock.index in
    let now = c.args.cpu.now in
    let new = c.write_slowpath.new.cpu in
    let waits = in_manner d c.args.aim.manner Writes l c.args.met old now c.in-Writes.is since in
    subst (λ (m : Manner). ComesIn d m l old new) (sym c.in-Writes.is)
    (enters_late d c.requires.awake l c.args.met old now new Writes Write waits c.write_slowpath.ensures.rest
    (c.write_slowpath.ensures.has (starting old false None) refl (writes_on d c.requires.awake l c.args.met old now new waits)))
