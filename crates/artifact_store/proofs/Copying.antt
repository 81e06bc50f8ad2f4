-- Copying a file piece by piece.
use Rattle.std.proofs.Common.{◌≡◌, ◌⊎◌, ℕ, ◌+◌, ◌-◌, ◌<◌, ◌≤◌, List, [], ◌∷◌, ◌++◌, length, take, drop, refl, sym, ap, subst, ◌∙◌, arith, inl, inr}
use Rattle.std.proofs.Common.{append_assoc, length-append}
use Rattle.std.specs.Prelude.{Option, Some, None, Result, Ok, Err, ⊤, IfSome, IfOk, IfErr}
use Rattle.std.proofs.lemmas.List.{append-nil, length-drop, take_all, drop_all, take-append-le, length-take-le, take-append-drop}
use Rattle.std.proofs.Math.Seq.{drop-append_seam}
use Rattle.sha2.specs.Sha256.{sha256}
use Rattle.nuc_base.specs.Tables.{IsFirst, AllHold}
use Rattle.disk_model.specs.Disk.{Image, IsPutAt, Step, IsAfter}
use Rattle.disk_model.specs.Spares.{IsSameBut, IsFile}
use Rattle.library_core.specs.Library.{IsPart, IsPieceOf, IsWithin}
use Rattle.library_core.specs.declared.library.Piece.{Piece}
use Rattle.library_core.specs.declared.library.Piece.TheVariants.{Missing, Bytes}
use Rattle.artifact_store.specs.Filled.{IsDigestOf}
use Rattle.artifact_store.specs.Staged.{HasCounted, StagesBy, IsOutside, found_lines, most_bytes}
use Rattle.artifact_store.specs.declared.fault.StageFault.{StageFault}
use Rattle.artifact_store.specs.declared.fault.StageFault.TheVariants as fault
use Rattle.artifact_store.proofs.Counting.{counts_good, counts_own}

-- these bytes stand at the beginning of the library's, where it has some
abbrev pub IsFoundPrefix : Option (List ℕ) → List ℕ → Type 0
IsFoundPrefix None m = ⊤
IsFoundPrefix (Some bytes) m = (rest : List ℕ) × (bytes ≡ m ++ rest)

pub prefix_none : (found : Option (List ℕ)) → IsFoundPrefix found []
prefix_none None = tt
prefix_none (Some bytes) = (bytes, refl)

-- a write at the end of a file adds to it
pub written : (m bytes new : List ℕ) → IsPutAt (length m) bytes m new → new ≡ m ++ bytes
written m bytes new h =
    let back : drop (length m + length bytes) m ≡ [] = drop_all (length m + length bytes) m (omega arith) in
    let prefix : take (length m) m ≡ m = take_all (length m) m (omega arith) in
    h ∙ ap (λ t. t ++ bytes ++ drop (length m + length bytes) m) prefix ∙ ap (λ t. m ++ bytes ++ t) back ∙ append_assoc m bytes [] ∙ ap (λ t. m ++ t)
    (append-nil bytes)

-- what a call put at the beginning of the slice
part_is : (bytes old new : List ℕ) (start n : ℕ) → IsPart bytes start old new n → take n new ≡ take n (drop start bytes)
part_is bytes old new start n p =
    let piece = take n (drop start bytes) in
    let long : length piece ≡ n = length-take-le n (drop start bytes) p.within in
    ap (take n) p.bytes_are
    ∙ take-append-le n piece (drop n old) (omega (arith, long))
    ∙ take_all n piece (omega (arith, long))

rest_is : (bytes m rest : List ℕ) → bytes ≡ m ++ rest → drop (length m) bytes ≡ rest
rest_is bytes m rest is = ap (drop (length m)) is ∙ drop-append_seam m rest

pub prefix_more : (found : Option (List ℕ)) (m old new : List ℕ) (n : ℕ) → IsPieceOf found (length m) old new (Bytes n) → IsFoundPrefix found m →
    IsFoundPrefix found (m ++ take n new)
prefix_more None m old new n p prefix = absurd p
prefix_more (Some bytes) m old new n p prefix =
    let rest = prefix.0 in
    let piece : take n new ≡ take n rest = part_is bytes old new (length m) n p ∙ ap (take n) (rest_is bytes m rest prefix.1) in
    let whole : bytes ≡ (m ++ take n rest) ++ drop n rest = prefix.1 ∙ ap (λ t. m ++ t) (sym (take-append-drop n rest)) ∙ sym
    (append_assoc m (take n rest) (drop n rest)) in
    (drop n rest, whole ∙ ap (λ t. (m ++ t) ++ drop n rest) (sym piece))

-- where nothing follows they are the library's
end_is : (m bytes rest : List ℕ) → bytes ≡ m ++ rest → length bytes ≤ length m → m ≡ bytes
end_is m bytes [] is short = sym (is ∙ append-nil m)
end_is m bytes (b ∷ rest) is short = absurd (let long : length bytes ≡ length m + length (b ∷ rest) = ap length is ∙ length-append m (b ∷ rest) in
    omega (arith, long, short))

pub prefix_end : (bytes m old new : List ℕ) → IsPart bytes (length m) old new 0 → 0 < length old → IsFoundPrefix (Some bytes) m → m ≡ bytes
prefix_end bytes m old new p some prefix =
    elim (p.some refl) [ inl none ↦ absurd (omega (arith, none, some)) | inr past ↦ end_is m bytes prefix.0 prefix.1 past ]

-- what copying answers, by what the last call gave

pub copied_missing : {A : Type 0} (Is : A → Type 0) (found : Option (List ℕ)) (file name old new : List ℕ) (at : ℕ) (piece : Piece) →
    IsPieceOf found at old new piece → piece ≡ Missing → name ≡ file
    → StagesBy (found_lines file None found) Is (Err (fault.Missing name))
copied_missing Is None file name old new at piece p is same = inr (inl (λ h. h, ap (λ (t : List ℕ). fault.Missing t) same))
copied_missing Is (Some bytes) file name old new at piece p is same =
    absurd (let there : IsPieceOf (Some bytes) at old new Missing = subst (λ (x : Piece). IsPieceOf (Some bytes) at old new x) is p in there)

-- the piece at the end of what was copied
piece_at : (found : Option (List ℕ)) (m old new : List ℕ) (at n : ℕ) (piece : Piece) → IsPieceOf found at old new piece → piece ≡ Bytes n → length m ≡ at →
    IsPieceOf found (length m) old new (Bytes n)
piece_at found m old new at n piece p is long = subst (λ (a : ℕ). IsPieceOf found a old new (Bytes n)) (sym long)
    (subst (λ (x : Piece). IsPieceOf found at old new x) is p)

pub prefix_next : (found : Option (List ℕ)) (m old new : List ℕ) (at n : ℕ) (piece : Piece) → IsPieceOf found at old new piece → piece ≡ Bytes n →
    length m ≡ at → IsFoundPrefix found m → IsFoundPrefix found (m ++ take n new)
prefix_next found m old new at n piece p is long prefix = prefix_more found m old new n (piece_at found m old new at n piece p is long) prefix

long_answer : (found : Option (List ℕ)) (file name m old new : List ℕ) (n : ℕ) → IsPieceOf found (length m) old new (Bytes n) → IsFoundPrefix found m →
    most_bytes < length m + n → name ≡ file
    → StagesBy (found_lines file None found) (IsDigestOf found) (Err (fault.TooLarge name most_bytes))
long_answer None file name m old new n p prefix more same = absurd p
long_answer (Some bytes) file name m old new n p prefix more same =
    let within : n ≤ length prefix.0 = subst (λ (l : List ℕ). n ≤ length l) (rest_is bytes m prefix.0 prefix.1) p.within in
    let long : length bytes ≡ length m + length prefix.0 = ap length prefix.1 ∙ length-append m prefix.0 in
    inr (inl ((λ short. omega (arith, within, long, more, short)), ap (λ (t : List ℕ). fault.TooLarge t most_bytes) same))

pub copied_long : (found : Option (List ℕ)) (file name m old new : List ℕ) (at n : ℕ) (piece : Piece) → IsPieceOf found at old new piece → piece ≡ Bytes n →
    length m ≡ at → IsFoundPrefix found m → most_bytes < length m + n → name ≡ file
    → StagesBy (found_lines file None found) (IsDigestOf found) (Err (fault.TooLarge name most_bytes))
copied_long found file name m old new at n piece p is long prefix more same =
    long_answer found file name m old new n (piece_at found m old new at n piece p is long) prefix more same

all_answer : (found : Option (List ℕ)) (file m old new digest : List ℕ) → IsPieceOf found (length m) old new (Bytes 0) → IsFoundPrefix found m
    → 0 < length old →
    length m ≤ most_bytes → digest ≡ sha256 m
    → StagesBy (found_lines file None found) (IsDigestOf found) (Ok digest)
all_answer None file m old new digest p prefix some short is = absurd p
all_answer (Some bytes) file m old new digest p prefix some short is =
    let same : m ≡ bytes = prefix_end bytes m old new p some prefix in
    ((subst (λ (l : List ℕ). length l ≤ most_bytes) same short, (tt, tt)), is ∙ ap sha256 same)

pub copied_all : (found : Option (List ℕ)) (file m old new digest : List ℕ) (at n : ℕ) (piece : Piece) → IsPieceOf found at old new piece → piece ≡ Bytes n →
    n ≡ 0 → length m ≡ at → IsFoundPrefix found m → 0 < length old
    → length m ≤ most_bytes → digest ≡ sha256 m → StagesBy (found_lines file None found) (IsDigestOf found) (Ok digest)
copied_all found file m old new digest at n piece p is none long prefix some short hashed =
    all_answer found file m old new digest (piece_at found m old new at 0 piece p (is ∙ ap (λ (k : ℕ). Bytes k) none) long) prefix some short hashed

-- ---- what is asked at the end of what may be

-- more bytes follow there
past_end : (found : Option (List ℕ)) (file name old new : List ℕ) (most n : ℕ) → most ≡ most_bytes → IsPieceOf found most old new (Bytes n) → (n ≡ 0 → ⊥) →
    name ≡ file
    → IsFirst (found_lines file None found) (fault.TooLarge name most)
past_end None file name old new most n is p some same = absurd p
past_end (Some bytes) file name old new most n is p some same =
    let left : length (drop most bytes) ≡ length bytes - most = length-drop most bytes in
    let more : length bytes ≤ most → ⊥ = λ short. some (omega (arith, p.within, left, short)) in
    inl (
      (λ short. more (subst (λ (k : ℕ). length bytes ≤ k) (sym is) short)),
      ap (λ (t : List ℕ). fault.TooLarge t most) same ∙ ap
          (λ (k : ℕ). fault.TooLarge file k) is,
    )

pub sized_long : {A : Type 0} (Is : A → Type 0) (found : Option (List ℕ)) (file name old new : List ℕ) (most n : ℕ) (piece : Piece) → most ≡ most_bytes →
    IsPieceOf found most old new piece → piece ≡ Bytes n → (n ≡ 0 → ⊥) → name ≡ file
    → StagesBy (found_lines file None found) Is (Err (fault.TooLarge name most))
sized_long Is found file name old new most n piece is p gave some same =
    inr (past_end found file name old new most n is (subst (λ (x : Piece). IsPieceOf found most old new x) gave p) some same)

-- none does
at_end : (found : Option (List ℕ)) (file old new : List ℕ) (most : ℕ) → most ≡ most_bytes → IsPieceOf found most old new (Bytes 0) → 0 < length old →
    AllHold (found_lines file None found)
at_end None file old new most is p room = absurd p
at_end (Some bytes) file old new most is p room =
    let short : length bytes ≤ most = elim (p.some refl) [ inl none ↦ absurd (omega (arith, none, room)) | inr past ↦ past ] in
    (subst (λ (k : ℕ). length bytes ≤ k) is short, (tt, tt))

pub sized_good : {A : Type 0} (value : A) (found : Option (List ℕ)) (file old new : List ℕ) (most n : ℕ) (piece : Piece) → most ≡ most_bytes →
    IsPieceOf found most old new piece → piece ≡ Bytes n → n ≡ 0 → 0 < length old
    → StagesBy (found_lines file None found) (λ (a : A). ⊤) (Ok value)
sized_good value found file old new most n piece is p gave none room =
    (at_end found file old new most is (subst (λ (x : Piece). IsPieceOf found most old new x) (gave ∙ ap (λ (k : ℕ). Bytes k) none) p) room, tt)

-- ---- the file that is written

pub written_more : (old new : Image) (file target m bytes : List ℕ) (at : ℕ) → file ≡ target → length m ≡ at → old target ≡ m →
    IsPutAt at bytes (old file) (new file) → new target ≡ m ++ bytes
written_more old new file target m bytes at same long is h =
    let there : IsPutAt at bytes (old target) (new target) = subst (λ (f : List ℕ). IsPutAt at bytes (old f) (new f)) same h in
    let placed : IsPutAt (length m) bytes (old target) (new target) = subst (λ (a : ℕ). IsPutAt a bytes (old target) (new target)) (sym long) there in
    written m bytes (new target) (subst (λ (x : List ℕ). IsPutAt (length m) bytes x (new target)) is placed)

-- a change of the file, by another name for it
pub file_step : (images : Image → Type 0) (file target : List ℕ) (change : List ℕ → List ℕ → Type 0) → file ≡ target → (c : Image) →
    IsAfter images (Step file change) c → IsAfter images (IsSameBut (IsFile target)) c
file_step images file target change same c was = (was.0, was.1, λ name ne. was.2.others name (λ is. ne (is ∙ same)))

pub file_seen : (old new : Image) (file target : List ℕ) (change : List ℕ → List ℕ → Type 0) → file ≡ target → Step file change old new →
    IsSameBut (IsFile target) old new
file_seen old new file target change same step name ne = step.others name (λ is. ne (is ∙ same))

-- what a vector holds whose bytes were written over as a slice
pub prefix_kept : (into items read : List ℕ) (k : ℕ) → read ≡ take k (into ++ drop (length into) items) → length into ≡ k → read ≡ into
prefix_kept into items read k is long = is ∙ take-append-le k into (drop (length into) items) (omega (arith, long)) ∙ take_all k into (omega (arith, long))

-- ---- the digest that is given

pub cut_empty : (old new : Image) (file target : List ℕ) → file ≡ target → Step file (λ before now. now ≡ take 0 before) old new → new target ≡ []
cut_empty old new file target same step = subst (λ (f : List ℕ). new f ≡ []) same (step.here)

pub held_digest : (image new mid : Image) (file target place digest : List ℕ) → file ≡ place → target ≡ place → image file ≡ new file → new ≡ mid →
    digest ≡ sha256 (mid target) → sha256 (image place) ≡ digest
held_digest image new mid file target place digest same is stable seen written =
    let there : image place ≡ new place = subst (λ (f : List ℕ). image f ≡ new f) same stable in
    ap sha256 there ∙ ap (λ (i : Image). sha256 (i place)) seen ∙ ap (λ (f : List ℕ). sha256 (mid f)) (sym is) ∙ sym written

-- a fault of the bytes is one whatever digest is given
pub given_fault : (found : Option (List ℕ)) (target file : List ℕ) (given : Option (List ℕ)) (f : StageFault) → target ≡ file → IsOutside f ⊎
    IsFirst (found_lines target None found) f → IsOutside f ⊎ IsFirst (found_lines file given found) f
given_fault found target file given f same (inl outside) = inl outside
given_fault None target file given f same (inr first) = inr (subst (λ (t : List ℕ). IsFirst (found_lines t given None) f) same first)
given_fault (Some bytes) target file given f same (inr (inl long)) = inr (inl (long.0, long.1 ∙ ap (λ (t : List ℕ). fault.TooLarge t most_bytes) same))
given_fault (Some bytes) target file given f same (inr (inr (short, inl other))) = absurd (other.0 tt)
given_fault (Some bytes) target file given f same (inr (inr (short, inr more))) = absurd more.1

hashed_as : (given : Option (List ℕ)) (digest hash : List ℕ) → digest ≡ hash → IfSome given (λ g. digest ≡ g) → IfSome given (λ g. g ≡ hash)
hashed_as None digest hash is agree = tt
hashed_as (Some g) digest hash is agree = sym agree ∙ is

hashed_not : (given : Option (List ℕ)) (digest hash : List ℕ) → digest ≡ hash → IfSome given (λ g. g ≡ hash) → IfSome given (λ g. digest ≡ g)
hashed_not None digest hash is same = tt
hashed_not (Some g) digest hash is same = is ∙ sym same

agree_good : (found : Option (List ℕ)) (target file : List ℕ) (given : Option (List ℕ)) (digest : List ℕ) → AllHold (found_lines target None found) ×
    IsDigestOf found digest → IfSome given (λ g. digest ≡ g)
    → AllHold (found_lines file given found) × IsDigestOf found digest
agree_good None target file given digest said agree = absurd said.1
agree_good (Some bytes) target file given digest said agree = ((said.0.0, (hashed_as given digest (sha256 bytes) said.1 agree, tt)), said.1)

agree_not : (found : Option (List ℕ)) (target file : List ℕ) (given : Option (List ℕ)) (digest : List ℕ) → target ≡ file →
    AllHold (found_lines target None found) × IsDigestOf found digest → (IfSome given (λ g. digest ≡ g) → ⊥)
    → IsFirst (found_lines file given found) (fault.Mismatch target digest)
agree_not None target file given digest same said other = absurd said.1
agree_not (Some bytes) target file given digest same said other =
    inr (
      said.0.0,
      inl (
        (λ hash. other (hashed_not given digest (sha256 bytes) said.1 hash)),
        ap (λ (t : List ℕ). fault.Mismatch t digest) same ∙ ap
            (λ (d : List ℕ). fault.Mismatch file d) said.1,
      ),
    )

pub agreed_staged : (found : Option (List ℕ)) (target file : List ℕ) (given : Option (List ℕ)) (digest : List ℕ) (r : Result (List ℕ) StageFault) →
    target ≡ file → AllHold (found_lines target None found) × IsDigestOf found digest
    → IfOk r (λ d. (d ≡ digest) × IfSome given (λ g. digest ≡ g)) → IfErr r (λ f. (f ≡ fault.Mismatch target digest) × (IfSome given (λ g. digest ≡ g) → ⊥)) →
    StagesBy (found_lines file given found) (IsDigestOf found) r
agreed_staged found target file given digest (Ok d) same said agree differ =
    subst (λ (x : List ℕ). AllHold (found_lines file given found) × IsDigestOf found x) (sym agree.0) (agree_good found target file given digest said agree.1)
agreed_staged found target file given digest (Err f) same said agree differ =
    inr (subst (λ (g : StageFault). IsFirst (found_lines file given found) g) (sym differ.0) (agree_not found target file given digest same said differ.1))

pub agreed_given : (given : Option (List ℕ)) (digest : List ℕ) (r : Result (List ℕ) StageFault) → IfOk r (λ d. (d ≡ digest) × IfSome given (λ g. digest ≡ g))
    → IfOk r (λ d. IfSome given (λ g. d ≡ g))
agreed_given given digest (Ok d) agree = subst (λ (x : List ℕ). IfSome given (λ g. x ≡ g)) (sym agree.0) agree.1
agreed_given given digest (Err f) agree = tt

pub agreed_held : (P : List ℕ → Type 0) (Q : List ℕ → Type 0) (digest : List ℕ) (r : Result (List ℕ) StageFault) → IfOk r (λ d. (d ≡ digest) × Q d) →
    P digest → IfOk r P
agreed_held P Q digest (Ok d) agree p = subst P (sym agree.0) p
agreed_held P Q digest (Err f) agree p = tt

pub agreed_counts : (d e l m : ℕ) (target digest : List ℕ) (P : Type 0) (r : Result (List ℕ) StageFault) →
    IfErr r (λ f. (f ≡ fault.Mismatch target digest) × P) → e ≡ d → m ≡ l → HasCounted d e l m r
agreed_counts d e l m target digest P (Ok digests) differ disk library = counts_good d e l m digests disk library
agreed_counts d e l m target digest P (Err f) differ disk library = counts_own d e l m (Err f) (fault.Mismatch target digest) (λ is. cc is)
    (λ is. cc is) differ.0 disk library

pub within_room : (room n : ℕ) (piece : Piece) → IsWithin room piece → piece ≡ Bytes n → n ≤ room
within_room room n piece within is = subst (λ (p : Piece). IsWithin room p) is within
