-- Several tables one behind the other: where one of them fails, and where all hold.
use Rattle.std.proofs.Common.{◌++◌, Result, Ok, Err}
use Rattle.nuc_base.specs.Tables.{Table, AllHold, IsFaultBy, AnswerBy}
use Rattle.nuc_base.proofs.Tables.{fault_before, fault_after, all_both}

pub all_2 : {Fault : Type 0} (a b : Table Fault) → AllHold a → AllHold b → AllHold (a ++ b)
all_2 a b ha hb = all_both a b ha hb

pub all_3 : {Fault : Type 0} (a b c : Table Fault) → AllHold a → AllHold b → AllHold c → AllHold (a ++ b ++ c)
all_3 a b c ha hb hc = all_both (a ++ b) c (all_2 a b ha hb) hc

pub all_4 : {Fault : Type 0} (a b c d : Table Fault) → AllHold a → AllHold b → AllHold c → AllHold d → AllHold (a ++ b ++ c ++ d)
all_4 a b c d ha hb hc hd = all_both (a ++ b ++ c) d (all_3 a b c ha hb hc) hd

pub all_5 : {Fault : Type 0} (a b c d e : Table Fault) → AllHold a → AllHold b → AllHold c → AllHold d → AllHold e → AllHold (a ++ b ++ c ++ d ++ e)
all_5 a b c d e ha hb hc hd he = all_both (a ++ b ++ c ++ d) e (all_4 a b c d ha hb hc hd) he

pub all_6 : {Fault : Type 0} (a b c d e f : Table Fault) → AllHold a → AllHold b → AllHold c → AllHold d → AllHold e → AllHold f →
    AllHold (a ++ b ++ c ++ d ++ e ++ f)
all_6 a b c d e f ha hb hc hd he hf = all_both (a ++ b ++ c ++ d ++ e) f (all_5 a b c d e ha hb hc hd he) hf

pub fault_1_of_2 : {Fault : Type 0} (memory : Fault) (a b : Table Fault) (fault : Fault) → IsFaultBy memory a fault → IsFaultBy memory (a ++ b) fault
fault_1_of_2 memory a b fault h = fault_before memory a b fault h

pub fault_2_of_2 : {Fault : Type 0} (memory : Fault) (a b : Table Fault) (fault : Fault) → AllHold a → IsFaultBy memory b fault
    → IsFaultBy memory (a ++ b) fault
fault_2_of_2 memory a b fault ha h = fault_after memory a b fault ha h

pub fault_1_of_3 : {Fault : Type 0} (memory : Fault) (a b c : Table Fault) (fault : Fault) → IsFaultBy memory a fault → IsFaultBy memory (a ++ b ++ c) fault
fault_1_of_3 memory a b c fault h = fault_before memory (a ++ b) c fault (fault_before memory a b fault h)

pub fault_2_of_3 : {Fault : Type 0} (memory : Fault) (a b c : Table Fault) (fault : Fault) → AllHold a → IsFaultBy memory b fault →
    IsFaultBy memory (a ++ b ++ c) fault
fault_2_of_3 memory a b c fault ha h = fault_before memory (a ++ b) c fault (fault_after memory a b fault ha h)

pub fault_3_of_3 : {Fault : Type 0} (memory : Fault) (a b c : Table Fault) (fault : Fault) → AllHold a → AllHold b → IsFaultBy memory c fault →
    IsFaultBy memory (a ++ b ++ c) fault
fault_3_of_3 memory a b c fault ha hb h = fault_after memory (a ++ b) c fault (all_2 a b ha hb) h

pub fault_1_of_4 : {Fault : Type 0} (memory : Fault) (a b c d : Table Fault) (fault : Fault) → IsFaultBy memory a fault
    → IsFaultBy memory (a ++ b ++ c ++ d) fault
fault_1_of_4 memory a b c d fault h = fault_before memory (a ++ b ++ c) d fault (fault_before memory (a ++ b) c fault (fault_before memory a b fault h))

pub fault_2_of_4 : {Fault : Type 0} (memory : Fault) (a b c d : Table Fault) (fault : Fault) → AllHold a → IsFaultBy memory b fault →
    IsFaultBy memory (a ++ b ++ c ++ d) fault
fault_2_of_4 memory a b c d fault ha h = fault_before memory (a ++ b ++ c) d fault (fault_before memory (a ++ b) c fault (fault_after memory a b fault ha h))

pub fault_3_of_4 : {Fault : Type 0} (memory : Fault) (a b c d : Table Fault) (fault : Fault) → AllHold a → AllHold b → IsFaultBy memory c fault →
    IsFaultBy memory (a ++ b ++ c ++ d) fault
fault_3_of_4 memory a b c d fault ha hb h = fault_before memory (a ++ b ++ c) d fault (fault_after memory (a ++ b) c fault (all_2 a b ha hb) h)

pub fault_4_of_4 : {Fault : Type 0} (memory : Fault) (a b c d : Table Fault) (fault : Fault) → AllHold a → AllHold b → AllHold c → IsFaultBy memory d fault →
    IsFaultBy memory (a ++ b ++ c ++ d) fault
fault_4_of_4 memory a b c d fault ha hb hc h = fault_after memory (a ++ b ++ c) d fault (all_3 a b c ha hb hc) h

pub fault_2_of_5 : {Fault : Type 0} (memory : Fault) (a b c d e : Table Fault) (fault : Fault) → AllHold a → IsFaultBy memory b fault →
    IsFaultBy memory (a ++ b ++ c ++ d ++ e) fault
fault_2_of_5 memory a b c d e fault ha h = fault_before memory (a ++ b ++ c ++ d) e fault (fault_before memory (a ++ b
    ++ c) d fault (fault_before memory (a ++ b) c fault (fault_after memory a b fault ha h)))

pub fault_3_of_5 : {Fault : Type 0} (memory : Fault) (a b c d e : Table Fault) (fault : Fault) → AllHold a → AllHold b → IsFaultBy memory c fault →
    IsFaultBy memory (a ++ b ++ c ++ d ++ e) fault
fault_3_of_5 memory a b c d e fault ha hb h = fault_before memory (a ++ b ++ c ++ d) e fault (fault_before memory (a ++ b
    ++ c) d fault (fault_after memory (a ++ b) c fault (all_2 a b ha hb) h))

pub fault_4_of_5 : {Fault : Type 0} (memory : Fault) (a b c d e : Table Fault) (fault : Fault) → AllHold a → AllHold b → AllHold c → IsFaultBy memory d fault →
    IsFaultBy memory (a ++ b ++ c ++ d ++ e) fault
fault_4_of_5 memory a b c d e fault ha hb hc h = fault_before memory (a ++ b ++ c ++ d) e fault (fault_after memory (a ++ b
    ++ c) d fault (all_3 a b c ha hb hc) h)

pub fault_5_of_5 : {Fault : Type 0} (memory : Fault) (a b c d e : Table Fault) (fault : Fault) → AllHold a → AllHold b → AllHold c → AllHold d →
    IsFaultBy memory e fault → IsFaultBy memory (a ++ b ++ c ++ d ++ e) fault
fault_5_of_5 memory a b c d e fault ha hb hc hd h = fault_after memory (a ++ b ++ c ++ d) e fault (all_4 a b c d ha hb hc hd) h

pub fault_2_of_6 : {Fault : Type 0} (memory : Fault) (a b c d e f : Table Fault) (fault : Fault) → AllHold a → IsFaultBy memory b fault →
    IsFaultBy memory (a ++ b ++ c ++ d ++ e ++ f) fault
fault_2_of_6 memory a b c d e f fault ha h = fault_before memory (a ++ b ++ c ++ d ++ e) f fault (fault_before memory (a ++ b ++ c
    ++ d) e fault (fault_before memory (a ++ b ++ c) d fault (fault_before memory (a ++ b) c fault (fault_after memory a b fault ha h))))

pub fault_3_of_6 : {Fault : Type 0} (memory : Fault) (a b c d e f : Table Fault) (fault : Fault) → AllHold a → AllHold b → IsFaultBy memory c fault →
    IsFaultBy memory (a ++ b ++ c ++ d ++ e ++ f) fault
fault_3_of_6 memory a b c d e f fault ha hb h = fault_before memory (a ++ b ++ c ++ d ++ e) f fault (fault_before memory (a ++ b ++ c
    ++ d) e fault (fault_before memory (a ++ b ++ c) d fault (fault_after memory (a ++ b) c fault (all_2 a b ha hb) h)))

pub fault_4_of_6 : {Fault : Type 0} (memory : Fault) (a b c d e f : Table Fault) (fault : Fault) → AllHold a → AllHold b → AllHold c →
    IsFaultBy memory d fault → IsFaultBy memory (a ++ b ++ c ++ d ++ e ++ f) fault
fault_4_of_6 memory a b c d e f fault ha hb hc h = fault_before memory (a ++ b ++ c ++ d ++ e) f fault (fault_before memory (a ++ b ++ c
    ++ d) e fault (fault_after memory (a ++ b ++ c) d fault (all_3 a b c ha hb hc) h))

pub fault_5_of_6 : {Fault : Type 0} (memory : Fault) (a b c d e f : Table Fault) (fault : Fault) → AllHold a → AllHold b → AllHold c → AllHold d →
    IsFaultBy memory e fault → IsFaultBy memory (a ++ b ++ c ++ d ++ e ++ f) fault
fault_5_of_6 memory a b c d e f fault ha hb hc hd h = fault_before memory (a ++ b ++ c ++ d
    ++ e) f fault (fault_after memory (a ++ b ++ c ++ d) e fault (all_4 a b c d ha hb hc hd) h)

pub fault_6_of_6 : {Fault : Type 0} (memory : Fault) (a b c d e f : Table Fault) (fault : Fault) → AllHold a → AllHold b → AllHold c → AllHold d →
    AllHold e → IsFaultBy memory f fault → IsFaultBy memory (a ++ b ++ c ++ d ++ e ++ f) fault
fault_6_of_6 memory a b c d e f fault ha hb hc hd he h = fault_after memory (a ++ b ++ c ++ d ++ e) f fault (all_5 a b c d e ha hb hc hd he) h

-- more is known of what was read
pub answers_also : {A Fault : Type 0} (memory : Fault) (lines : Table Fault) (Is More : A → Type 0) (result : Result A Fault) → ((a : A) → Is a → More a) →
    AnswerBy memory lines Is result → AnswerBy memory lines More result
answers_also memory lines Is More (Ok a) also h = (h.0, also a h.1)
answers_also memory lines Is More (Err fault) also h = h
