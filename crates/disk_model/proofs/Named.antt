-- Lists of files, and the image that they are.
use Rattle.std.proofs.Common.{◌⊎◌, inl, inr, ⊎_elim, ◌≡◌, ◌≢◌, ℕ, zero, suc, ◌<◌, List, [], ◌∷◌, ◌++◌, length, set, get_or, if◌then◌else◌, Bool, true, false}
use Rattle.std.proofs.Common.{Vec, refl, sym, ◌∙◌, ap, subst, arith}
use Rattle.std.specs.declared.alloc.Global.{Global}
use Rattle.std.specs.Str.{bytes_eq}
use Rattle.std.proofs.lemmas.Slice.Eq.{bytes_eq-Decides}
use Rattle.std.proofs.lemmas.Bool.{false_from_ne_true}
use Rattle.disk_model.specs.Disk.{Image}
use Rattle.disk_model.specs.Files.{contents}
use Rattle.disk_model.specs.Put.{put}
use Rattle.disk_model.specs.Places.{NoneBefore, IsFirst, Rewritten}
use Rattle.disk_model.specs.declared.files.File.{File}

pub none_more : (name : List ℕ) (i : ℕ) (files : List File) (d : File) → NoneBefore name i files → i < length files → (get_or files i d).name ≢ name →
    NoneBefore name (suc i) files
none_more name zero [] d none lt ne = absurd (omega arith)
none_more name zero (file ∷ files) d none lt ne = (ne, tt)
none_more name (suc i) [] d none lt ne = absurd none
none_more name (suc i) (file ∷ files) d none lt ne = (none.0, none_more name i files d none.1 (omega arith) ne)

pub first_here : (name : List ℕ) (i : ℕ) (files : List File) (d : File) → NoneBefore name i files → i < length files → (get_or files i d).name ≡ name →
    IsFirst name i files
first_here name zero [] d none lt is = absurd (omega arith)
first_here name zero (file ∷ files) d none lt is = is
first_here name (suc i) [] d none lt is = absurd none
first_here name (suc i) (file ∷ files) d none lt is = (none.0, first_here name i files d none.1 (omega arith) is)

pub first_push : (name : List ℕ) (i : ℕ) (files : List File) (file : File) → NoneBefore name i files → i ≡ length files → file.name ≡ name →
    IsFirst name i (files ++ file ∷ [])
first_push name zero [] file none is same = same
first_push name zero (f ∷ files) file none is same = absurd (omega arith)
first_push name (suc i) [] file none is same = absurd none
first_push name (suc i) (f ∷ files) file none is same = (none.0, first_push name i files file none.1 (omega arith) same)

-- an empty file more is none
pub contents-push : (files : List File) (file : File) (name : List ℕ) → file.bytes.items ≡ [] → contents (files ++ file ∷ []) name ≡ contents files name
contents-push [] file name empty = elim (bytes_eq name file.name) as (λ b. (if b then file.bytes.items else []) ≡ []) [ true ↦ empty | false ↦ refl ]
contents-push (f ∷ files) file name empty = ap (λ (l : List ℕ). if bytes_eq name f.name then f.bytes.items else l) (contents-push files file name empty)

-- the same files, but for these bytes in the one at that place
abbrev HasBytes : ℕ → List ℕ → List File → List File → Type 0
HasBytes i bytes [] new = ⊥
HasBytes i bytes (file ∷ files) [] = ⊥
HasBytes zero bytes (file ∷ files) (other ∷ new) = (other.name ≡ file.name) × (other.bytes.items ≡ bytes) × (new ≡ files)
HasBytes (suc i) bytes (file ∷ files) (other ∷ new) = (other ≡ file) × HasBytes i bytes files new

pub set_rewrites : (files : List File) (i : ℕ) (change : List ℕ → List ℕ) (name : List ℕ) (bytes : Vec ℕ Global) (d : File) → i < length files →
    name ≡ (get_or files i d).name
    → bytes.items ≡ change (get_or files i d).bytes.items → Rewritten i change files (set files i (record { name = name; bytes = bytes }))
set_rewrites [] i change name bytes d lt is holds = absurd (omega arith)
set_rewrites (file ∷ files) zero change name bytes d lt is holds = (is, holds, refl)
set_rewrites (file ∷ files) (suc i) change name bytes d lt is holds = (refl, set_rewrites files i change name bytes d (omega arith) is holds)

two_tests : (a b : Bool) (x y z : List ℕ) → (a ≡ true → b ≡ true → ⊥) → (if a then y else (if b then x else z)) ≡ (if b then x else (if a then y else z))
two_tests a b x y z apart = elim a as (λ a. (a ≡ true → b ≡ true → ⊥) → (if a then y else (if b then x else z)) ≡ (if b then x else (if a then y else z))) [
  | true ↦ λ apart. elim b as (λ b. (true ≡ true → b ≡ true → ⊥) → y ≡ (if b then x else y)) [ true ↦ λ apart. absurd (apart refl refl) | false ↦ λ _. refl ]
      apart
  | false ↦ λ _. refl
] apart

-- other bytes in the first file of a name
contents-put : (name : List ℕ) (i : ℕ) (files new : List File) (bytes : List ℕ) → IsFirst name i files → HasBytes i bytes files new → (n : List ℕ) →
    contents new n ≡ put name bytes (contents files) n
contents-put name i [] new bytes first has n = absurd has
contents-put name zero (file ∷ files) [] bytes first has n = absurd has
contents-put name (suc i) (file ∷ files) [] bytes first has n = absurd has
contents-put name zero (file ∷ files) (other ∷ new) bytes first has n =
    let test : bytes_eq n other.name ≡ bytes_eq n name = ap (λ (l : List ℕ). bytes_eq n l) (has.0 ∙ first) in
    let test_old : bytes_eq n file.name ≡ bytes_eq n name = ap (λ (l : List ℕ). bytes_eq n l) first in
    ap (λ (b : Bool). if b then other.bytes.items else contents new n) test
    ∙ ap (λ (l : List ℕ). if bytes_eq n name then l else contents new n) has.1
    ∙ ap (λ (l : List File). if bytes_eq n name then bytes else contents l n) has.2
    ∙ drops (bytes_eq n name) bytes file.bytes.items (contents files n)
    ∙ ap (λ (b : Bool). if bytes_eq n name then bytes else (if b then file.bytes.items else contents files n)) (sym test_old)
  where
    drops : (b : Bool) (x y z : List ℕ) → (if b then x else z) ≡ (if b then x else (if b then y else z))
    drops true x y z = refl
    drops false x y z = refl
contents-put name (suc i) (file ∷ files) (other ∷ new) bytes first has n =
    ap (λ (f : File). if bytes_eq n f.name then f.bytes.items else contents new n) has.0
    ∙ ap (λ (l : List ℕ). if bytes_eq n file.name then file.bytes.items else l) (contents-put name i files new bytes first.1 has.1 n)
    ∙ two_tests (bytes_eq n file.name) (bytes_eq n name) bytes file.bytes.items (contents files n)
    (λ a b. first.0 (sym ((bytes_eq-Decides n file.name).0 a) ∙ (bytes_eq-Decides n name).0 b))

pub put_same : (file : List ℕ) (bytes other : List ℕ) (s t : Image) → bytes ≡ other → ((n : List ℕ) → s n ≡ t n) → (n : List ℕ) →
    put file bytes s n ≡ put file other t n
put_same file bytes other s t same images n =
    ap (λ (l : List ℕ). if bytes_eq n file then l else s n) same ∙ ap (λ (l : List ℕ). if bytes_eq n file then other else l) (images n)

-- what the first file of a name holds is what the name reads as
here : (name : List ℕ) (file : File) (files : List File) → file.name ≡ name → contents (file ∷ files) name ≡ file.bytes.items
here name file files is = ap (λ (b : Bool). if b then file.bytes.items else contents files name) ((bytes_eq-Decides name file.name).1 (sym is))

there : (name : List ℕ) (file : File) (files : List File) → file.name ≢ name → contents (file ∷ files) name ≡ contents files name
there name file files ne = ap (λ (b : Bool). if b then file.bytes.items else contents files name)
    (false_from_ne_true _ (λ same. ne (sym ((bytes_eq-Decides name file.name).0 same))))

has_of : (name : List ℕ) (i : ℕ) (change : List ℕ → List ℕ) (files new : List File) → IsFirst name i files → Rewritten i change files new →
    HasBytes i (change (contents files name)) files new
has_of name i change [] new first has = absurd first
has_of name zero change (file ∷ files) [] first has = absurd has
has_of name (suc i) change (file ∷ files) [] first has = absurd has
has_of name zero change (file ∷ files) (other ∷ new) first has = (has.0, has.1 ∙ ap change (sym (here name file files first)), has.2)
has_of name (suc i) change (file ∷ files) (other ∷ new) first has =
    (has.0, subst (λ (l : List ℕ). HasBytes i (change l) files new) (sym (there name file files first.0)) (has_of name i change files new first.1 has.1))

-- a change of the first file of a name
pub contents-change : (name : List ℕ) (i : ℕ) (change : List ℕ → List ℕ) (files new : List File) → IsFirst name i files → Rewritten i change files new
    → (n : List ℕ) → contents new n ≡ put name (change (contents files name)) (contents files) n
contents-change name i change files new first has n = contents-put name i files new (change (contents files name)) first
    (has_of name i change files new first has) n

-- the same after what changed no file
pub changed_after : (name : List ℕ) (i : ℕ) (change : List ℕ → List ℕ) (old files new : List File) → ((n : List ℕ) → contents files n ≡ contents old n) →
    IsFirst name i files → Rewritten i change files new
    → (n : List ℕ) → contents new n ≡ put name (change (contents old name)) (contents old) n
changed_after name i change old files new same first has n =
    contents-change name i change files new first has n ∙ put_same name _ _ (contents files) (contents old) (ap change (same name)) same n

-- what puts the same bytes changes nothing
pub put_kept : (file bytes : List ℕ) (image : Image) → bytes ≡ image file → (n : List ℕ) → put file bytes image n ≡ image n
put_kept file bytes image is n = by_test (bytes_eq n file) refl
  where
    by_test : (b : Bool) → bytes_eq n file ≡ b → (if bytes_eq n file then bytes else image n) ≡ image n
    by_test true same = subst (λ (b : Bool). (if b then bytes else image n) ≡ image n) (sym same) (is ∙ ap image (sym ((bytes_eq-Decides n file).0 same)))
    by_test false same = subst (λ (b : Bool). (if b then bytes else image n) ≡ image n) (sym same) refl

-- where no file has the name it reads as nothing
pub none_holds : (name : List ℕ) (i : ℕ) (files : List File) → i ≡ length files → NoneBefore name i files → contents files name ≡ []
none_holds name zero [] is none = refl
none_holds name zero (file ∷ files) is none = absurd (omega arith)
none_holds name (suc i) [] is none = refl
none_holds name (suc i) (file ∷ files) is none = there name file files none.0 ∙ none_holds name i files (omega arith) none.1

-- files of the same names and bytes are the same image
abbrev pub AreSame : List File → List File → Type 0
AreSame [] [] = Unit {0}
AreSame [] (g ∷ gs) = ⊥
AreSame (f ∷ fs) [] = ⊥
AreSame (f ∷ fs) (g ∷ gs) = (f.name ≡ g.name) × (f.bytes.items ≡ g.bytes.items) × AreSame fs gs

pub same_push : (fs gs : List File) (f g : File) → AreSame fs gs → f.name ≡ g.name → f.bytes.items ≡ g.bytes.items → AreSame (fs ++ f ∷ []) (gs ++ g ∷ [])
same_push [] [] f g same name bytes = (name, bytes, tt)
same_push [] (h ∷ gs) f g same name bytes = absurd same
same_push (h ∷ fs) [] f g same name bytes = absurd same
same_push (h ∷ fs) (k ∷ gs) f g same name bytes = (same.0, same.1, same_push fs gs f g same.2 name bytes)

pub same_contents : (fs gs : List File) → AreSame fs gs → (n : List ℕ) → contents fs n ≡ contents gs n
same_contents [] [] same n = refl
same_contents [] (g ∷ gs) same n = absurd same
same_contents (f ∷ fs) [] same n = absurd same
same_contents (f ∷ fs) (g ∷ gs) same n =
    ap (λ (l : List ℕ). if bytes_eq n l then f.bytes.items else contents fs n) same.0
    ∙ ap (λ (l : List ℕ). if bytes_eq n g.name then l else contents fs n) same.1
    ∙ ap (λ (l : List ℕ). if bytes_eq n g.name then g.bytes.items else l) (same_contents fs gs same.2 n)

-- some file has the name
abbrev pub IsNamed : List ℕ → List File → Type 0
IsNamed name [] = ⊥
IsNamed name (file ∷ files) = (file.name ≡ name) ⊎ IsNamed name files

pub named_push : (name : List ℕ) (files : List File) (file : File) → IsNamed name (files ++ file ∷ []) → IsNamed name files ⊎ (file.name ≡ name)
named_push name [] file (inl is) = inr is
named_push name [] file (inr none) = absurd none
named_push name (f ∷ files) file (inl is) = inl (inl is)
named_push name (f ∷ files) file (inr is) = ⊎_elim (λ in_files. inl (inr in_files)) (λ last. inr last) (named_push name files file is)

named_by : (name : List ℕ) (file : File) (files : List File) → contents (file ∷ files) name ≢ [] → (contents files name ≢ [] → IsNamed name files) →
    IsNamed name (file ∷ files)
named_by name file files some more = by_test (bytes_eq name file.name) refl
  where
    by_test : (b : Bool) → bytes_eq name file.name ≡ b → IsNamed name (file ∷ files)
    by_test true is = inl (sym ((bytes_eq-Decides name file.name).0 is))
    by_test false is = inr (more (λ none. some (ap (λ (b : Bool). if b then file.bytes.items else contents files name) is ∙ none)))

-- what is not empty has a file
pub named_of : (name : List ℕ) (files : List File) → contents files name ≢ [] → IsNamed name files
named_of name [] some = absurd (some refl)
named_of name (file ∷ files) some = named_by name file files some (named_of name files)
