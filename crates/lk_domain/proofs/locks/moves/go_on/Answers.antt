use Rattle.lk_domain.proofs.Names.{Claims, Clears, Looks, Pends, Stakes}
use Rattle.lk_domain.proofs.words.Uses.{use_allowed, use_inside, use_made}
use Rattle.lk_domain.specs.declared.locks.moves.WordUse.TheVariants.{Takes, Frees, Slows, Wins}
use Rattle.lk_domain.specs.declared.locks.moves.WordUse.TheVariants.{Signs, Drops}
use Rattle.lk_domain.proofs.locks.moves.go_on.Goals as goal

pub load-requires : goal.load-requires
load-requires c =
    let z = c.args.table.now.shared.table_id in let key = c.args.table.now.shared.key in let k = c.args.plan.now in
    let id = c.args.seat.now.id in let m = c.args.seat.now.me in let r = c.requires in let w = c.word_of-word in (
      r.seat,
      use_inside z key k id m c.args.lock c.args.how w.result r.table r.lock r.number r.row r.home w.ensures,
      use_allowed z key k id m c.args.lock c.args.how w.result r.table r.lock r.number r.row r.home w.ensures Looks c.in-Looks.is,
    )

pub returns-in-Looks-clause-made : goal.returns-in-Looks-clause-made
returns-in-Looks-clause-made c verb at = use_made c.args.how verb c.args.lock _ _ _ at c.load.ensures.2

pub compare_exchange-requires : goal.compare_exchange-requires
compare_exchange-requires c =
    let z = c.args.table.now.shared.table_id in let key = c.args.table.now.shared.key in let k = c.args.plan.now in
    let id = c.args.seat.now.id in let m = c.args.seat.now.me in let r = c.requires in let w = c.word_of-word in (
      r.seat,
      use_inside z key k id m c.args.lock c.args.how w.result r.table r.lock r.number r.row r.home w.ensures,
      use_allowed z key k id m c.args.lock c.args.how w.result r.table r.lock r.number r.row r.home w.ensures Takes c.in-Takes.is,
    )

pub returns-in-Takes-clause-made : goal.returns-in-Takes-clause-made
returns-in-Takes-clause-made c verb at = use_made c.args.how verb c.args.lock _ _ _ at c.compare_exchange.ensures.2

pub fetch_sub-requires : goal.fetch_sub-requires
fetch_sub-requires c =
    let z = c.args.table.now.shared.table_id in let key = c.args.table.now.shared.key in let k = c.args.plan.now in
    let id = c.args.seat.now.id in let m = c.args.seat.now.me in let r = c.requires in let w = c.word_of-word in (
      r.seat,
      use_inside z key k id m c.args.lock c.args.how w.result r.table r.lock r.number r.row r.home w.ensures,
      use_allowed z key k id m c.args.lock c.args.how w.result r.table r.lock r.number r.row r.home w.ensures Frees c.in-Frees.is,
    )

pub returns-in-Frees-clause-made : goal.returns-in-Frees-clause-made
returns-in-Frees-clause-made c verb at = use_made c.args.how verb c.args.lock _ _ _ at c.fetch_sub.ensures.2

pub fetch_or-requires : goal.fetch_or-requires
fetch_or-requires c =
    let z = c.args.table.now.shared.table_id in let key = c.args.table.now.shared.key in let k = c.args.plan.now in
    let id = c.args.seat.now.id in let m = c.args.seat.now.me in let r = c.requires in let w = c.word_of-word in (
      r.seat,
      use_inside z key k id m c.args.lock c.args.how w.result r.table r.lock r.number r.row r.home w.ensures,
      use_allowed z key k id m c.args.lock c.args.how w.result r.table r.lock r.number r.row r.home w.ensures Pends c.in-Pends.is,
    )

pub returns-in-Pends-clause-made : goal.returns-in-Pends-clause-made
returns-in-Pends-clause-made c verb at = use_made c.args.how verb c.args.lock _ _ _ at c.fetch_or.ensures.2

pub fetch_sub-requires-in-Clears : goal.fetch_sub-requires-in-Clears
fetch_sub-requires-in-Clears c =
    let z = c.args.table.now.shared.table_id in let key = c.args.table.now.shared.key in let k = c.args.plan.now in
    let id = c.args.seat.now.id in let m = c.args.seat.now.me in let r = c.requires in let w = c.word_of-word in (
      r.seat,
      use_inside z key k id m c.args.lock c.args.how w.result r.table r.lock r.number r.row r.home w.ensures,
      use_allowed z key k id m c.args.lock c.args.how w.result r.table r.lock r.number r.row r.home w.ensures Clears c.in-Clears.is,
    )

pub returns-in-Clears-clause-made : goal.returns-in-Clears-clause-made
returns-in-Clears-clause-made c verb at = use_made c.args.how verb c.args.lock _ _ _ at c.fetch_sub-in-Clears.ensures.2

pub fetch_sub-requires-in-Claims : goal.fetch_sub-requires-in-Claims
fetch_sub-requires-in-Claims c =
    let z = c.args.table.now.shared.table_id in let key = c.args.table.now.shared.key in let k = c.args.plan.now in
    let id = c.args.seat.now.id in let m = c.args.seat.now.me in let r = c.requires in let w = c.word_of-word in (
      r.seat,
      use_inside z key k id m c.args.lock c.args.how w.result r.table r.lock r.number r.row r.home w.ensures,
      use_allowed z key k id m c.args.lock c.args.how w.result r.table r.lock r.number r.row r.home w.ensures Claims c.in-Claims.is,
    )

pub returns-in-Claims-clause-made : goal.returns-in-Claims-clause-made
returns-in-Claims-clause-made c verb at = use_made c.args.how verb c.args.lock _ _ _ at c.fetch_sub-in-Claims.ensures.2

pub fetch_add-requires : goal.fetch_add-requires
fetch_add-requires c =
    let z = c.args.table.now.shared.table_id in let key = c.args.table.now.shared.key in let k = c.args.plan.now in
    let id = c.args.seat.now.id in let m = c.args.seat.now.me in let r = c.requires in let w = c.word_of-word in (
      r.seat,
      use_inside z key k id m c.args.lock c.args.how w.result r.table r.lock r.number r.row r.home w.ensures,
      use_allowed z key k id m c.args.lock c.args.how w.result r.table r.lock r.number r.row r.home w.ensures Stakes c.in-Stakes.is,
    )

pub returns-in-Stakes-clause-made : goal.returns-in-Stakes-clause-made
returns-in-Stakes-clause-made c verb at = use_made c.args.how verb c.args.lock _ _ _ at c.fetch_add.ensures.2

pub fetch_or-requires-in-Slows : goal.fetch_or-requires-in-Slows
fetch_or-requires-in-Slows c =
    let z = c.args.table.now.shared.table_id in let key = c.args.table.now.shared.key in let k = c.args.plan.now in
    let id = c.args.seat.now.id in let m = c.args.seat.now.me in let r = c.requires in let w = c.word_of-word in (
      r.seat,
      use_inside z key k id m c.args.lock c.args.how w.result r.table r.lock r.number r.row r.home w.ensures,
      use_allowed z key k id m c.args.lock c.args.how w.result r.table r.lock r.number r.row r.home w.ensures Slows c.in-Slows.is,
    )

pub returns-in-Slows-clause-made : goal.returns-in-Slows-clause-made
returns-in-Slows-clause-made c verb at = use_made c.args.how verb c.args.lock _ _ _ at c.fetch_or-in-Slows.ensures.2

pub fetch_sub-requires-in-Wins : goal.fetch_sub-requires-in-Wins
fetch_sub-requires-in-Wins c =
    let z = c.args.table.now.shared.table_id in let key = c.args.table.now.shared.key in let k = c.args.plan.now in
    let id = c.args.seat.now.id in let m = c.args.seat.now.me in let r = c.requires in let w = c.word_of-word in (
      r.seat,
      use_inside z key k id m c.args.lock c.args.how w.result r.table r.lock r.number r.row r.home w.ensures,
      use_allowed z key k id m c.args.lock c.args.how w.result r.table r.lock r.number r.row r.home w.ensures Wins c.in-Wins.is,
    )

pub returns-in-Wins-clause-made : goal.returns-in-Wins-clause-made
returns-in-Wins-clause-made c verb at = use_made c.args.how verb c.args.lock _ _ _ at c.fetch_sub-in-Wins.ensures.2

pub fetch_add-requires-in-Signs : goal.fetch_add-requires-in-Signs
fetch_add-requires-in-Signs c =
    let z = c.args.table.now.shared.table_id in let key = c.args.table.now.shared.key in let k = c.args.plan.now in
    let id = c.args.seat.now.id in let m = c.args.seat.now.me in let r = c.requires in let w = c.word_of-word in (
      r.seat,
      use_inside z key k id m c.args.lock c.args.how w.result r.table r.lock r.number r.row r.home w.ensures,
      use_allowed z key k id m c.args.lock c.args.how w.result r.table r.lock r.number r.row r.home w.ensures Signs c.in-Signs.is,
    )

pub returns-in-Signs-clause-made : goal.returns-in-Signs-clause-made
returns-in-Signs-clause-made c verb at = use_made c.args.how verb c.args.lock _ _ _ at c.fetch_add-in-Signs.ensures.2

pub fetch_sub-requires-in-Drops : goal.fetch_sub-requires-in-Drops
fetch_sub-requires-in-Drops c =
    let z = c.args.table.now.shared.table_id in let key = c.args.table.now.shared.key in let k = c.args.plan.now in
    let id = c.args.seat.now.id in let m = c.args.seat.now.me in let r = c.requires in let w = c.word_of-word in (
      r.seat,
      use_inside z key k id m c.args.lock c.args.how w.result r.table r.lock r.number r.row r.home w.ensures,
      use_allowed z key k id m c.args.lock c.args.how w.result r.table r.lock r.number r.row r.home w.ensures Drops c.in-Drops.is,
    )

pub returns-in-Drops-clause-made : goal.returns-in-Drops-clause-made
returns-in-Drops-clause-made c verb at = use_made c.args.how verb c.args.lock _ _ _ at c.fetch_sub-in-Drops.ensures.2
