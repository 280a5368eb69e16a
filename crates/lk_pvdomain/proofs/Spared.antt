-- A look in place of a store of 0.
use Rattle.std.proofs.Common.{ℕ, get_or, refl, sym, subst}
use Rattle.lk_pvdomain.proofs.Names.{Allows, Me, keeps, dite, ℕ_discrete, stands, Slot, Stand, Plan}
use Rattle.lk_pvdomain.proofs.Names.{View}
use Rattle.atomic_table.specs.Table.{stepped}
use Rattle.lk_pvdomain.specs.PvPlays.{SparedBy}

-- where the word is 0 it stores what is there
pub spared : (k : Plan) (slots id : ℕ) (m : Me Slot View) (i : ℕ) (T : ℕ → Me Slot View → Type 0)
    → Allows (Stand k) slots id m i (λ _. 0) T → Allows (Stand k) slots id m i (λ n. n) (SparedBy T m)
spared k slots id m i T stores s both long me small =
    let n : ℕ = get_or s.words i 0 in
    dite (ℕ_discrete n 0)
    (λ hit. let t = stores s both long me small in (
      t.0,
      t.1,
      t.2,
      subst (λ (j : ℕ). Stand k (stepped s i j id m.1 t.0 t.1)) (sym hit) t.3,
      record { spares = λ _. t.4; stays = λ ne. absurd (ne hit) },
    ))
    (λ miss. (m.0, keeps, tt, stands k s both id m.0 me i n refl, record { spares = λ e. absurd (miss e); stays = λ _. refl }))
