-- Artifacts one after another, and the part of a URI behind its last slash.
use Rattle.std.proofs.Common.{◌≡◌, ◌≢◌, ℕ, suc, ◌+◌, ◌-◌, ◌<◌, ◌≤◌, ◌==◌, true, false, not, List, [], ◌∷◌, ◌++◌, length, map, drop, get_or, refl, sym, ap}
use Rattle.std.proofs.Common.{◌∙◌, subst, append_assoc, arith, lit<, ne_eqb, inl, inr, Result, Ok, Err}
use Rattle.std.proofs.lemmas.List.{append-nil, get_or-drop, length-drop}
use Rattle.std.specs.List.{AllZip, list_any, suffix_len}
use Rattle.std.proofs.lemmas.List.Sums.{suffix_len_is}
use Rattle.std.proofs.lemmas.List.Folds.{list_any_at}
use Rattle.std.specs.Str.{NoCharPasses}
use Rattle.std.specs.Str.Pattern.{HasCharAt}
use Rattle.std.proofs.lemmas.Str.Pattern.{NoCharPasses-char}
use Rattle.serde_json.specs.Data.{Data}
use Rattle.nuc_base.specs.Tables.{Table, AllHold, IsFirst, IsFaultBy, AnswerBy}
use Rattle.nuc_base.specs.declared.artifact.Artifact.{Artifact}
use Rattle.nuc_base.proofs.Tables.{first_after, fault_along, fault_before, all_both}
use Rattle.tree_core.specs.Parts.{check}
use Rattle.recipe_reader.specs.Artifacts.{artifact_lines, IsArtifact, has_name, listed_lines, file_at, is_slash, file_in, has_scheme, IsFileName, IsUri}
use Rattle.recipe_reader.specs.declared.fault.RecipeFault.{RecipeFault}
use Rattle.recipe_reader.specs.declared.fault.RecipeFault.TheVariants.{NoMemory, DuplicateArtifact, UnsupportedUri}

abbrev pub files : List Artifact → List (List ℕ)
files artifacts = map (λ a. a.file) artifacts

files_push : (done : List Artifact) (a : Artifact) → files (done ++ a ∷ []) ≡ files done ++ a.file ∷ []
files_push [] a = refl
files_push (x ∷ done) a = ap (λ fs. x.file ∷ fs) (files_push done a)

-- what the loop keeps: all of them, those that are left, and what was read of the others
pub record Lists (all rest : List Data) (done : List Artifact) : Type 0 where
  pub faults : (f : RecipeFault) → IsFirst (listed_lines (files done) rest) f → IsFirst (listed_lines [] all) f
  pub holds : AllHold (listed_lines (files done) rest) → AllHold (listed_lines [] all)
  pub values : (more : List Artifact) → AllZip IsArtifact rest more → AllZip IsArtifact all (done ++ more)

pub lists_start : (all : List Data) → Lists all all []
lists_start all = record { faults = λ f h. h; holds = λ h. h; values = λ ys h. h }

abbrev pub next_lines : List Artifact → Data → Table RecipeFault
next_lines done v = artifact_lines v ++ check (has_name (files done) (file_at v) ≡ false) DuplicateArtifact

module _ (all : List Data) (v : Data) (rest : List Data) (done : List Artifact) (l : Lists all (v ∷ rest) done) where
  pub lists_fault : (f : RecipeFault) → IsFaultBy NoMemory (next_lines done v) f → IsFaultBy NoMemory (listed_lines [] all) f
  lists_fault f h = fault_along NoMemory (listed_lines (files done) (v ∷ rest)) (listed_lines [] all) f l.faults
      (fault_before NoMemory (next_lines done v) (listed_lines (files done ++ file_at v ∷ []) rest) f h)

  module _ (a : Artifact) (holds : AllHold (next_lines done v)) (is : IsArtifact v a) where
    names : files (done ++ a ∷ []) ≡ files done ++ file_at v ∷ []
    names = files_push done a ∙ ap (λ f. files done ++ f ∷ []) is.file

    pub lists_more : Lists all rest (done ++ a ∷ [])
    lists_more = record {
      faults = λ f h. l.faults f (first_after (next_lines done v) (listed_lines (files done ++ file_at v ∷ []) rest) f holds
          (subst (λ (ns : List (List ℕ)). IsFirst (listed_lines ns rest) f) names h));
      holds = λ h. l.holds (all_both (next_lines done v) (listed_lines (files done ++ file_at v ∷ []) rest) holds
          (subst (λ (ns : List (List ℕ)). AllHold (listed_lines ns rest)) names h));
      values = λ ys h. subst (λ zs. AllZip IsArtifact all zs) (sym (append_assoc done (a ∷ []) ys)) (l.values (a ∷ ys) (is, h));
    }

pub lists_end : (all : List Data) (done : List Artifact) → Lists all [] done → AllHold (listed_lines [] all) × AllZip IsArtifact all done
lists_end all done l = (l.holds tt, subst (λ zs. AllZip IsArtifact all zs) (append-nil done) (l.values [] tt))

-- ---- a URI

pub uri_file : (s file : List ℕ) (r : Result (List ℕ) RecipeFault) → has_scheme s ≡ true → list_any is_slash s ≡ true → file ≡ file_in s
    → AnswerBy NoMemory (check (IsFileName file) UnsupportedUri) (λ f. f ≡ file) r → AnswerBy NoMemory (check (IsUri s) UnsupportedUri) (λ f. f ≡ file_in s) r
uri_file s file (Ok f) scheme slash is h = ((record { scheme = scheme; slash = slash; file = subst IsFileName is h.0.0 }, tt), h.1 ∙ is)
uri_file s file (Err f) scheme slash is (inl h) = inl h
uri_file s file (Err f) scheme slash is (inr (inl h)) = inr (inl ((λ u. h.0 (subst IsFileName (sym is) u.file)), h.1))
uri_file s file (Err f) scheme slash is (inr (inr h)) = absurd h.1

-- ---- behind the last slash

no_slash : (s : List ℕ) → NoCharPasses (λ d. d == 47) s → (i : ℕ) → i < length s → get_or s i 0 ≢ 47
no_slash s h i below = NoCharPasses-char 47 s i h (lit< tt) below

lacks : (s : List ℕ) → ((i : ℕ) → i < length s → get_or s i 0 ≢ 47) → list_any is_slash s ≡ false
lacks [] h = refl
lacks (x ∷ xs) h =
    let other : is_slash x ≡ false = ne_eqb x 47 (h 0 (omega arith)) in
    rw other (lacks xs (λ i below. h (suc i) (omega arith)))

pub no_slash_any : (s : List ℕ) → NoCharPasses (λ d. d == 47) s → list_any is_slash s ≡ false
no_slash_any s h = lacks s (no_slash s h)

module _ (s : List ℕ) (i j : ℕ) (h : HasCharAt 47 s i j) (after : NoCharPasses (λ d. d == 47) (drop j s)) (in_s : j ≤ length s) where
  next : j ≡ i + 1
  next = h.ends

  below : i < length s
  below = omega (arith, next)

  here : get_or s i 0 ≡ 47
  here = h.byte (lit< tt)

  behind : (k : ℕ) → j ≤ k → k < length s → not (is_slash (get_or s k 0)) ≡ true
  behind k above k_in =
      let at : get_or (drop j s) (k - j) 0 ≡ get_or s k 0 = get_or-drop j s (k - j) 0 ∙ ap (λ n. get_or s n 0) (omega arith) in
      let other : get_or s k 0 ≢ 47 = λ e. no_slash (drop j s) after (k - j) (omega (arith, length-drop j s)) (at ∙ e) in
      ap not (ne_eqb (get_or s k 0) 47 other)

  tail_len : suffix_len (λ x. not (is_slash x)) s ≡ length s - j
  tail_len = suffix_len_is (λ x. not (is_slash x)) s j 0 in_s behind (λ some. ap (λ n. not (is_slash (get_or s n 0))) (omega (arith, next))
      ∙ ap (λ x. not (is_slash x)) here)

  pub file_is : file_in s ≡ drop j s
  file_is = ap (λ n. drop (length s - n) s) tail_len ∙ ap (λ n. drop n s) (omega arith)

  pub has_slash : list_any is_slash s ≡ true
  has_slash = list_any_at is_slash s i 0 below (ap is_slash here)
