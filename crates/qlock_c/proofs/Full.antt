-- What a handle has, by whether it has a port.
use Rattle.std.proofs.Common.{◌≡◌, true, false, Option, Some, None, refl}
use Rattle.std.proofs.lemmas.Bool.{true≢false}
use Rattle.lk_port.specs.declared.port.Port.{Port}
use Rattle.qlock_c.specs.Own.{is_full}

-- a full handle has a port
pub full_has : (o : Option Port) → is_full o ≡ true → (x : Port) × (o ≡ Some x)
full_has None e = let z : false ≡ true = e in absurd (cc z)
full_has (Some x) e = (x, refl)

-- an empty handle has nothing
pub none_of : (o : Option Port) → is_full o ≡ false → o ≡ None
none_of None e = refl
none_of (Some x) e = absurd (true≢false e)
