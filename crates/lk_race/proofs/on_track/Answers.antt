use Rattle.std.proofs.Common.{subst}
use Rattle.std.proofs.lemmas.Option.{slice_get_within, get_or_from_slice_get}
use Rattle.lk_race.proofs.on_track.Goals as goal

-- the first of the processors rests, as all do
pub read-requires : goal.read-requires
read-requires g c =
    let cpus = c.take_all_turns-time.new.cpus.items in
    let first = c.get_mut.result.now in
    let met = c.get_mut.ensures.value in
    subst (g.T.Track.rests c.args.track.now 0) (get_or_from_slice_get cpus 0 first first met)
    (c.take_all_turns-time.ensures.rest 0 first (slice_get_within cpus 0 first met))
