use Rattle.std.proofs.Common.{ap, ◌≡◌, ◌∙◌, ◌<◌, length, sym, Bool, true, false}
use Rattle.lk_machine.specs.Packed.{with_word}
use Rattle.lk_machine.proofs.Words.{within, stored_spin, stored_wait}
use Rattle.lk_machine.proofs.machine.words.Words.set_word.Goals as goal
use Rattle.lk_machine.proofs.machine.words.Words.set_word.Goals.{then-lock, else-lock}
use Rattle.lk_machine.specs.contracts.machine.words.Words.{the_view}

pub returns : goal.returns
returns c =
    let ws = c.self.inside.locks.items in
    let l = c.args.lock in
    let inside : l.index < length ws = within c.self.inside.layout ws c.args.self.now l.index c.self.view_is c.requires.lock in
    let named : (b : Bool) → l.wait ≡ b → record { index = l.index; wait = b } ≡ l =
    λ b is. (λ j. record { index = l.index; wait = sym is j }) in
    let onto : (b : Bool) → l.wait ≡ b
    → with_word (the_view c.self.inside) (record { index = l.index; wait = b }) c.args.fields
    ≡ with_word c.args.self.now l c.args.fields =
    λ b is. (λ j. with_word (c.self.view_is j) (named b is j) c.args.fields) in
    elim c.if-lock.branch [
      | then-lock w ↦
          ap the_view w.self-inside-is
          ∙ stored_wait c.self.inside.layout ws l.index _ c.index_mut-state.result.now inside
          c.index_mut-state.ensures.value c.word_of-word.result c.args.fields c.word_of-word.ensures.fields
          ∙ onto true w.if-lock.true
      | else-lock w ↦
          ap the_view w.self-inside-is
          ∙ stored_spin c.self.inside.layout ws l.index _ c.index_mut-state.result.now inside
          c.index_mut-state.ensures.value c.word_of-word.result c.args.fields c.word_of-word.ensures.fields
          ∙ onto false w.if-lock.false
    ]
