-- The artifacts of a manifest.
use Rattle.std.specs.Prelude.{◌≡◌, ◌≢◌, ℕ, ◌≤◌, ◌==◌, ◌||◌, Bool, true, false, nat_eq, List, [], ◌∷◌, ◌++◌, length, codes, Option, Some, None, Ok, ◌⊎◌, ⊤}
use Rattle.std.specs.List.{after_last, list_any, starts_with, AllZip}
use Rattle.serde_json.specs.Data.{Data, null, boolean, number, string, array, object}
use Rattle.hex.specs.Hex.{decode_sized}
use Rattle.base64.specs.GeneralPurpose.{encode_of, IsBytes}
use Rattle.base64.specs.Engines.{standard}
use Rattle.nuc_base.specs.Names.{IsLabel}
use Rattle.nuc_base.specs.Tables.{Table, on}
use Rattle.nuc_base.specs.declared.artifact.Artifact.{Artifact}
use Rattle.tree_core.specs.Parts.{IsText, IsTextOf, IsObject, IsList, values, check}
use Rattle.recipe_reader.specs.Spelled.{spelled}
use Rattle.recipe_reader.specs.Keys.{any_case, keyed}
use Rattle.recipe_reader.specs.Platforms.{is_text}
use Rattle.recipe_reader.specs.Steps.{doubles, required_key}
use Rattle.recipe_reader.specs.declared.fault.Key.TheVariants as key
use Rattle.recipe_reader.specs.declared.fault.RecipeFault.{RecipeFault}
use Rattle.recipe_reader.specs.declared.fault.RecipeFault.TheVariants as fault

-- ---- where it comes from

abbrev pub has_scheme : List ℕ → Bool
has_scheme s =
    ((starts_with nat_eq s (codes "s3:") || starts_with nat_eq s (codes "https:"))
    || starts_with nat_eq s (codes "greengrass:")) || starts_with nat_eq s (codes "file:")

abbrev pub is_slash : ℕ → Bool
is_slash b = b == 47

-- what follows the last slash
abbrev pub file_in : List ℕ → List ℕ
file_in s = after_last is_slash s

pub record IsFileName (f : List ℕ) : Type 0 where
  pub label : IsLabel f
  pub short : length f ≤ 128
  pub not_here : f ≢ codes "."
  pub not_above : f ≢ codes ".."

pub record IsUri (s : List ℕ) : Type 0 where
  pub scheme : has_scheme s ≡ true
  pub slash : list_any is_slash s ≡ true
  pub file : IsFileName (file_in s)

abbrev pub uri_lines : Data → Table RecipeFault
uri_lines v = check (IsText v) (fault.WrongKind key.Uri) ++ check (IsTextOf IsUri v) fault.UnsupportedUri

abbrev pub file_text : Option Data → List ℕ
file_text None = []
file_text (Some null) = []
file_text (Some (boolean b)) = []
file_text (Some (number n)) = []
file_text (Some (string s)) = file_in s
file_text (Some (array ds)) = []
file_text (Some (object ms)) = []

-- the file name of an artifact
abbrev pub file_at : Data → List ℕ
file_at v = file_text (any_case (spelled key.Uri) v)

-- ---- how it is packed, and its digest

abbrev pub unarchive_lines : Data → Table RecipeFault
unarchive_lines v =
    check (IsText v) (fault.WrongKind key.Unarchive)
    ++ check (v ≢ string (codes "ZIP")) fault.ZipArtifact
    ++ check (v ≡ string (codes "NONE")) (fault.WrongKind key.Unarchive)

abbrev pub algorithm_lines : Data → Table RecipeFault
algorithm_lines v = check (v ≡ string (codes "SHA-256")) fault.BadDigest

-- the text is the standard base64 of 32 bytes, padded (RFC 4648, section 4)
pub record IsBase64 (s d : List ℕ) : Type 0 where
  pub text : s ≡ encode_of standard d
  pub whole : length d ≡ 32
  pub bytes : IsBytes d

-- the text is 64 hexadecimal digits, or the base64 of the digest
abbrev pub IsDigest : List ℕ → List ℕ → Type 0
IsDigest s d = (decode_sized s 32 ≡ Ok d) ⊎ IsBase64 s d

abbrev pub digest_lines : Data → Table RecipeFault
digest_lines v = check ((d : List ℕ) × IsTextOf (λ s. IsDigest s d) v) fault.BadDigest

abbrev pub IsDigestOf : Option Data → Option (List ℕ) → Type 0
IsDigestOf None None = ⊤
IsDigestOf None (Some d) = ⊥
IsDigestOf (Some v) None = ⊥
IsDigestOf (Some v) (Some d) = IsTextOf (λ s. IsDigest s d) v

-- ---- an artifact

abbrev pub artifact_doubles : Data → Table RecipeFault
artifact_doubles v = doubles key.Uri v ++ doubles key.Unarchive v ++ doubles key.Algorithm v ++ doubles key.Digest v

abbrev pub artifact_lines : Data → Table RecipeFault
artifact_lines v =
    check (IsObject v) (fault.WrongKind key.Artifacts)
    ++ artifact_doubles v
    ++ required_key key.Uri v uri_lines
    ++ on (keyed (spelled key.Unarchive) v) unarchive_lines
    ++ on (keyed (spelled key.Algorithm) v) algorithm_lines
    ++ on (keyed (spelled key.Digest) v) digest_lines

pub record IsArtifact (v : Data) (artifact : Artifact) : Type 0 where
  pub file : artifact.file ≡ file_at v
  pub digest : IsDigestOf (keyed (spelled key.Digest) v) artifact.digest

-- ---- artifacts in order, none with the file name of an earlier one

abbrev pub has_name : List (List ℕ) → List ℕ → Bool
has_name names f = list_any (λ n. is_text n f) names

abbrev pub listed_lines : List (List ℕ) → List Data → Table RecipeFault
listed_lines names [] = []
listed_lines names (v ∷ vs) = (artifact_lines v ++ check (has_name names (file_at v) ≡ false) fault.DuplicateArtifact)
    ++ listed_lines (names ++ file_at v ∷ []) vs

abbrev pub artifacts_lines : Data → Table RecipeFault
artifacts_lines v =
    check (IsList v) (fault.WrongKind key.Artifacts)
    ++ check (length (values v) ≤ 64) (fault.TooMany key.Artifacts)
    ++ listed_lines [] (values v)

abbrev pub AreArtifacts : Option Data → List Artifact → Type 0
AreArtifacts None artifacts = artifacts ≡ []
AreArtifacts (Some v) artifacts = AllZip IsArtifact (values v) artifacts
