-- Work on a value in place, which fits before and after.
use Rattle.std.specs.Borrow.{MutBor}
use Rattle.std.specs.Fn.{Once, FnOnceReturnsAtMut, FnOnceTakesAtMut}

module _ {F T R : Type 0} (g : Once F (MutBor T × Unit {0}) (R × (MutBor T × Unit {0}))) (fits : T → Type 0) (work : F) where
  -- it may be called on each value that fits, and leaves one that fits
  pub record KeepsFit : Type 0 where
    pub callable : (x : T) → fits x → FnOnceTakesAtMut g work x
    pub keeps : (x : T) (r : R) (y : T) → fits x → FnOnceReturnsAtMut g work x r y → fits y

  -- it was called once, on a value that fits, and gave r
  pub record HasWorked (r : R) : Type 0 where
    pub met : T
    pub left : T
    pub fit : fits met
    pub gave : FnOnceReturnsAtMut g work met r left
