-- The family of each row: by it the code of the rows is cut into crates, and it is written here
-- alone.
use Rattle.lk_rows.specs.declared.family.Family.{Family}
use Rattle.lk_rows.specs.declared.family.Family.TheVariants.{Spin, Queue, Cna, Pv, Rw}
use Rattle.lk_rows.specs.declared.parts.Pc.{Pc}
use Rattle.lk_rows.specs.declared.parts.Pc.TheVariants.{F1, T1, T2, U1, V1, V2, P0, P1, P2, P3}
use Rattle.lk_rows.specs.declared.parts.Pc.TheVariants.{P4, G1, G2, G3, G4, G5, G6, G7, G8, G9}
use Rattle.lk_rows.specs.declared.parts.Pc.TheVariants.{G10, G11, N1, N2, C1, C2, C3, C4, C5, C6}
use Rattle.lk_rows.specs.declared.parts.Pc.TheVariants.{C7, C8, C9, C10, H1, H2, W1, W2, W3, W4}
use Rattle.lk_rows.specs.declared.parts.Pc.TheVariants.{W5, W6, W7, E1, E2, E3, E4, E5, E6, E7}
use Rattle.lk_rows.specs.declared.parts.Pc.TheVariants.{E8, E9, E10, E11, E12, E13, E14, E15, K1}
use Rattle.lk_rows.specs.declared.parts.Pc.TheVariants.{K2, K3, U2, U3, U4, U5, R1, R2, R3, R4}
use Rattle.lk_rows.specs.declared.parts.Pc.TheVariants.{R5, Wr1, Wr2, Wr3, Wr4, Wr5, Wr6, Y1, Y2}
use Rattle.lk_rows.specs.declared.parts.Pc.TheVariants.{Y3, Y4, Y5, Z1, Z2}

-- the family of a row: the crate that makes it, and the table that has it as data
abbrev pub family_of : Pc → Family
family_of F1 = Spin
family_of T1 = Spin
family_of T2 = Spin
family_of U1 = Spin
family_of V1 = Spin
family_of V2 = Spin
family_of P0 = Spin
family_of P1 = Spin
family_of P2 = Spin
family_of P3 = Spin
family_of P4 = Spin
family_of G1 = Queue
family_of G2 = Queue
family_of G3 = Queue
family_of G4 = Queue
family_of G5 = Queue
family_of G6 = Queue
family_of G7 = Queue
family_of G8 = Queue
family_of G9 = Queue
family_of G10 = Queue
family_of G11 = Queue
family_of N1 = Queue
family_of N2 = Queue
family_of C1 = Cna
family_of C2 = Cna
family_of C3 = Cna
family_of C4 = Cna
family_of C5 = Cna
family_of C6 = Cna
family_of C7 = Cna
family_of C8 = Cna
family_of C9 = Cna
family_of C10 = Cna
family_of H1 = Pv
family_of H2 = Pv
family_of W1 = Pv
family_of W2 = Pv
family_of W3 = Pv
family_of W4 = Pv
family_of W5 = Pv
family_of W6 = Pv
family_of W7 = Pv
family_of E1 = Pv
family_of E2 = Pv
family_of E3 = Pv
family_of E4 = Pv
family_of E5 = Pv
family_of E6 = Pv
family_of E7 = Pv
family_of E8 = Pv
family_of E9 = Pv
family_of E10 = Pv
family_of E11 = Pv
family_of E12 = Pv
family_of E13 = Pv
family_of E14 = Pv
family_of E15 = Pv
family_of K1 = Pv
family_of K2 = Pv
family_of K3 = Pv
family_of U2 = Pv
family_of U3 = Pv
family_of U4 = Pv
family_of U5 = Pv
family_of R1 = Rw
family_of R2 = Rw
family_of R3 = Rw
family_of R4 = Rw
family_of R5 = Rw
family_of Wr1 = Rw
family_of Wr2 = Rw
family_of Wr3 = Rw
family_of Wr4 = Rw
family_of Wr5 = Rw
family_of Wr6 = Rw
family_of Y1 = Rw
family_of Y2 = Rw
family_of Y3 = Rw
family_of Y4 = Rw
family_of Y5 = Rw
family_of Z1 = Rw
family_of Z2 = Rw
