-- Examples of the grammar, which compute.
use Rattle.std.proofs.Common.{◌≡◌, refl, ℕ, [], Some, None, length, Option}
use Rattle.std.specs.Prelude.{codes}
use Rattle.lk_forms.specs.Trace.{Trace, Good, Refused, trace}
use Rattle.lk_forms.specs.declared.answers.LineRefusal.{LineRefusal}
use Rattle.lk_forms.specs.declared.answers.LineRefusal.TheVariants.{Bad, Limit}
use Rattle.lk_forms.specs.declared.answers.Fault.TheVariants as fault
use Rattle.lk_forms.specs.declared.answers.Which.TheVariants as which

-- the number of acts, or of the line that is refused, and why it is
verdict : Trace → ℕ × Option LineRefusal
verdict (Good s acts) = (length acts, None)
verdict (Refused line why s acts) = (line, Some why)

whole : verdict (trace (codes "qtrace 1\nmode virt\ncpus 1\nlock 0 spin\nprog 0 lock 0 unlock 0\ngo\nstep 0 2\nend\n")) ≡ (2, None)
unfolding verdict
whole = refl

no_input : verdict (trace []) ≡ (1, Some (Bad fault.NoFormat))
unfolding verdict
no_input = refl

other_version : verdict (trace (codes "qtrace 3\nmode virt\ncpus 1\nlock 0 spin\nprog 0 lock 0 unlock 0\ngo\nstep 0 2\nend\n")) ≡ (1, Some (Bad fault.NoFormat))
unfolding verdict
other_version = refl

second_mode : verdict (trace (codes "qtrace 1\nmode virt\nmode virt\nlock 0 spin\nprog 0 lock 0 unlock 0\ngo\nstep 0 2\nend\n")) ≡ (3, Some (Bad fault.Repeated))
unfolding verdict
second_mode = refl

early_step : verdict (trace (codes "qtrace 1\nmode virt\nstep 0 1\nlock 0 spin\nprog 0 lock 0 unlock 0\ngo\nstep 0 2\nend\n")) ≡ (3, Some (Bad fault.Misplaced))
unfolding verdict
early_step = refl

no_such_lock : verdict (trace (codes "qtrace 1\nmode virt\ncpus 1\nlock 0 spin\nprog 0 lock 7 unlock 7\ngo\nstep 0 2\nend\n")) ≡ (5, Some (Bad fault.WrongLock))
unfolding verdict
no_such_lock = refl

held_twice : verdict (trace (codes "qtrace 1\nmode virt\ncpus 1\nlock 0 spin\nprog 0 lock 0 lock 0 unlock 0 unlock 0\ngo\nstep 0 2\nend\n")) ≡ (5, Some (Bad fault.Reheld))
unfolding verdict
held_twice = refl

not_held : verdict (trace (codes "qtrace 1\nmode virt\ncpus 1\nlock 0 spin\nprog 0 unlock 0\ngo\nstep 0 2\nend\n")) ≡ (5, Some (Bad fault.NotHeld))
unfolding verdict
not_held = refl

held_at_the_end : verdict (trace (codes "qtrace 1\nmode virt\ncpus 1\nlock 0 spin\nprog 0 lock 0\ngo\nstep 0 2\nend\n")) ≡ (5, Some (Bad fault.StillHeld))
unfolding verdict
held_at_the_end = refl

crossed_try : verdict (trace (codes "qtrace 1\nmode virt\nlock 0 spin\nlock 1 spin\nprog 0 try 0 lock 1 unlock 0 unlock 1\ngo\nstep 0 2\nend\n")) ≡ (5, Some (Bad fault.Crossed))
unfolding verdict
crossed_try = refl

no_count : verdict (trace (codes "qtrace 1\nmode virt\ncpus 1\nlock 0 spin\nprog 0 lock 0 unlock 0\ngo\nstep 0\nend\n")) ≡ (7, Some (Bad fault.WordCount))
unfolding verdict
no_count = refl

too_large : verdict (trace (codes "qtrace 1\nmode virt\ncpus 1\nlock 0 spin\nprog 0 lock 0 unlock 0\ngo\nstep 0 18446744073709551616\nend\n")) ≡ (7, Some (Bad fault.BadNumber))
unfolding verdict
too_large = refl

no_such_cpu : verdict (trace (codes "qtrace 1\nmode virt\ncpus 1\nlock 0 spin\nprog 0 lock 0 unlock 0\ngo\nstep 64 1\nend\n")) ≡ (7, Some (Bad fault.OutOfRange))
unfolding verdict
no_such_cpu = refl

too_many_acts : verdict (trace (codes "qtrace 1\nmode virt\ncpus 1\nlock 0 spin\nprog 0 lock 0 unlock 0\ngo\nstep 0 100000001\nend\n")) ≡ (7, Some (Limit which.Acts))
unfolding verdict
too_many_acts = refl

unknown_word : verdict (trace (codes "qtrace 1\nmode virt\ncpus 1\nlock 0 spin\nprog 0 lock 0 unlock 0\ngo\nstep 0 2\nstop 0\n")) ≡ (8, Some (Bad fault.UnknownWord))
unfolding verdict
unknown_word = refl

no_end : verdict (trace (codes "qtrace 1\nmode virt\ncpus 1\nlock 0 spin\nprog 0 lock 0 unlock 0\ngo\nstep 0 2")) ≡ (8, Some (Bad fault.NoEnd))
unfolding verdict
no_end = refl

behind_the_end : verdict (trace (codes "qtrace 1\nmode virt\ncpus 1\nlock 0 spin\nprog 0 lock 0 unlock 0\ngo\nstep 0 2\nend\ngo\n")) ≡ (9, Some (Bad fault.Misplaced))
unfolding verdict
behind_the_end = refl

blanks_and_comments : verdict (trace (codes "qtrace 1\nmode virt\n# hi\n\ncpus 2\r\nlock 0 spin\nprog 1 lock 0 unlock 0\ngo\n  step  0   2\t\nint 1\nnudge 0\nend\n\n#")) ≡ (4, None)
unfolding verdict
blanks_and_comments = refl

sixty_fifth_operation : verdict (trace (codes "qtrace 1\nmode virt\nlock 0 spin\nprog 0 lock 0 unlock 0 lock 0 unlock 0 lock 0 unlock 0 lock 0 unlock 0 lock 0 unlock 0 lock 0 unlock 0 lock 0 unlock 0 lock 0 unlock 0 lock 0 unlock 0 lock 0 unlock 0 lock 0 unlock 0 lock 0 unlock 0 lock 0 unlock 0 lock 0 unlock 0 lock 0 unlock 0 lock 0 unlock 0 lock 0 unlock 0 lock 0 unlock 0 lock 0 unlock 0 lock 0 unlock 0 lock 0 unlock 0 lock 0 unlock 0 lock 0 unlock 0 lock 0 unlock 0 lock 0 unlock 0 lock 0 unlock 0 lock 0 unlock 0 lock 0 unlock 0 lock 0 unlock 0 lock 0 unlock 0 lock 0 unlock 0 lock 0 unlock 0 lock 0\n")) ≡ (4, Some (Limit which.Words))
unfolding verdict
sixty_fifth_operation = refl

sixty_fifth_processor : verdict (trace (codes "qtrace 1\nmode virt\ncpus 65\n")) ≡ (3, Some (Bad fault.OutOfRange))
unfolding verdict
sixty_fifth_processor = refl

sixty_fifth_of_format_two : verdict (trace (codes "qtrace 2\nmode virt\ncpus 65\nlock 0 spin\nprog 64 lock 0 unlock 0\ngo\nstep 64 2\nend\n")) ≡ (2, None)
unfolding verdict
sixty_fifth_of_format_two = refl

over_a_thousand : verdict (trace (codes "qtrace 2\nmode virt\ncpus 1025\n")) ≡ (3, Some (Bad fault.OutOfRange))
unfolding verdict
over_a_thousand = refl

format_spelled : verdict (trace (codes "qtrace 02\n")) ≡ (1, Some (Bad fault.NoFormat))
unfolding verdict
format_spelled = refl

sixty_fifth_socket : verdict (trace (codes "qtrace 1\nmode virt\ncpus 1\nsockets 64\n")) ≡ (4, Some (Bad fault.OutOfRange))
unfolding verdict
sixty_fifth_socket = refl

too_high_a_threshold : verdict (trace (codes "qtrace 1\nmode virt\nthreshold 65536\n")) ≡ (3, Some (Bad fault.OutOfRange))
unfolding verdict
too_high_a_threshold = refl

too_many_spins : verdict (trace (codes "qtrace 1\nmode virt\nspins 65536\n")) ≡ (3, Some (Bad fault.OutOfRange))
unfolding verdict
too_many_spins = refl

thirty_third_lock : verdict (trace (codes "qtrace 1\nmode virt\nlock 0 spin\nlock 1 spin\nlock 2 spin\nlock 3 spin\nlock 4 spin\nlock 5 spin\nlock 6 spin\nlock 7 spin\nlock 8 spin\nlock 9 spin\nlock 10 spin\nlock 11 spin\nlock 12 spin\nlock 13 spin\nlock 14 spin\nlock 15 spin\nlock 16 spin\nlock 17 spin\nlock 18 spin\nlock 19 spin\nlock 20 spin\nlock 21 spin\nlock 22 spin\nlock 23 spin\nlock 24 spin\nlock 25 spin\nlock 26 spin\nlock 27 spin\nlock 28 spin\nlock 29 spin\nlock 30 spin\nlock 31 spin\nlock 32 spin\n")) ≡ (35, Some (Bad fault.OutOfRange))
unfolding verdict
thirty_third_lock = refl

seventeenth_handler : verdict (trace (codes "qtrace 1\nmode virt\nlock 0 spin\nirq 0 lock 0 unlock 0\nirq 0 lock 0 unlock 0\nirq 0 lock 0 unlock 0\nirq 0 lock 0 unlock 0\nirq 0 lock 0 unlock 0\nirq 0 lock 0 unlock 0\nirq 0 lock 0 unlock 0\nirq 0 lock 0 unlock 0\nirq 0 lock 0 unlock 0\nirq 0 lock 0 unlock 0\nirq 0 lock 0 unlock 0\nirq 0 lock 0 unlock 0\nirq 0 lock 0 unlock 0\nirq 0 lock 0 unlock 0\nirq 0 lock 0 unlock 0\nirq 0 lock 0 unlock 0\nirq 0 lock 0 unlock 0\n")) ≡ (20, Some (Limit which.Handlers))
unfolding verdict
seventeenth_handler = refl

twenty_one_digits : verdict (trace (codes "qtrace 1\nmode virt\ncpus 000000000000000000001\n")) ≡ (3, Some (Bad fault.BadNumber))
unfolding verdict
twenty_one_digits = refl
