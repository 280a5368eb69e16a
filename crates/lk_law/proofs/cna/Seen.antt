-- Which node a front sees as local.
use Rattle.std.proofs.Common.{◌≡◌, Bool, ap, sym, ◌∙◌, subst}
use Rattle.lk_law.proofs.Names.{NodeName, is_local, Waiter, Pc, has_node, Waits, snapshot, Uses}
use Rattle.lk_law.proofs.Names.{sight_in}
use Rattle.lk_law.proofs.{common.Acting.{Acting, StandsAwake}, common.Users.{user_of, user_found}}

-- what a front sees of a node it sees of the waiter that waits with it
pub seen_as : {a : Acting} {c : Pc} (at : StandsAwake a c) (n : NodeName) (b : Bool)
    → (sight_in a.world a.by a.frame).local n ≡ b
    → (u : Waiter) → (snapshot a.world).phase a.frame.lock u ≡ Waits
    → (snapshot a.world).own u ≡ n → (snapshot a.world).local a.by u ≡ b
seen_as {a = a} at n b seen u waits own =
    let uses : Uses a.world u n =
    subst (Uses a.world u) own (user_of at.sound a.frame.lock u (ap has_node waits)) in
    ap (is_local a.world.format a.world.sockets a.by.cpu)
    (sym (user_found at.sound at.newest.shallow u n uses))
    ∙ seen
