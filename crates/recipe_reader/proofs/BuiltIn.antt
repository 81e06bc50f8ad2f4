-- The recipe of the built-in component reads on each platform.
use Rattle.std.proofs.Common.{◌≡◌, ℕ, ◌≤◌, List, [], ◌∷◌, length, true, refl, sym, subst, arith, length-append, append_assoc}
use Rattle.std.proofs.Common.{lit≤, lit<}
use Rattle.std.specs.List.{list_all}
use Rattle.std.proofs.lemmas.List.Elements.{All-cons, All-nil}
use Rattle.std.proofs.lemmas.List.Sums.{AllPass-from_list_all}
use Rattle.std.proofs.lemmas.Bool.Decides.{nat_tests}
use Rattle.json.specs.Print.{escape, escape_byte}
use Rattle.json.proofs.Printed.Utf8.{IsUtf8-are_ascii}
use Rattle.serde_json.specs.Written.{compact_text}
use Rattle.std.proofs.lemmas.Bool.{and_parts}
use Rattle.nuc_base.specs.Names.{IsName, is_name_byte}
use Rattle.nuc_base.specs.Tables.{AllHold}
use Rattle.nuc_base.specs.declared.platform.Platform.{Platform}
use Rattle.npm_ranges.specs.Versions.{IsVersion}
use Rattle.npm_ranges.proofs.VersionTexts.{is_version_byte, version_bytes, version_is_utf8}
use Rattle.tree_core.specs.Regular.{IsRegular}
use Rattle.tree_core.specs.Reading.{IsTreeOf}
use Rattle.tree_core.specs.Laws.{ReadsBack}
use Rattle.recipe_reader.specs.Recipes.{recipe_lines, limit}
use Rattle.recipe_reader.specs.Candidates.{nucleus_name, nucleus_bytes, nucleus_data, IsNucleus, IsRead, AreCandidates}
use Rattle.recipe_reader.specs.declared.candidate.Candidate.{Candidate}

-- no byte of a version is escaped
plain_byte : (b : ℕ) → is_version_byte b ≡ true → escape_byte b ≡ b ∷ []
unfolding escape_byte
plain_byte b h = grind (arith, nat_tests)

plain_text : (s : List ℕ) → list_all is_version_byte s ≡ true → escape s ≡ s
plain_text [] h = refl
plain_text (b ∷ s) h = let p = and_parts (is_version_byte b) (list_all is_version_byte s) h in rw (plain_byte b p.0, plain_text s p.1) refl

pub nucleus_named : IsName nucleus_name
nucleus_named = record {
  not_empty = lit< tt;
  short = lit≤ tt;
  each = AllPass-from_list_all is_name_byte nucleus_name refl;
  not_here = λ e. cc e;
  not_above = λ e. cc e;
}

pub nucleus_text : (version : List ℕ) → IsVersion version → compact_text (nucleus_data version) ≡ nucleus_bytes version
unfolding escape_byte
nucleus_text version is = rw (plain_text version (version_bytes version is), append_assoc version (34 ∷ []) _) refl

nucleus_regular : (version : List ℕ) → IsVersion version → IsRegular (nucleus_data version)
nucleus_regular version is = record {
  orderly = ((refl, (refl, tt)), tt, ((refl, tt), tt, (tt, tt, tt)));
  shallow = lit≤ tt;
  utf8 = (
    IsUtf8-are_ascii _ refl,
    IsUtf8-are_ascii _ refl,
    (
      IsUtf8-are_ascii _ refl,
      version_is_utf8 version is,
      (IsUtf8-are_ascii _ refl, IsUtf8-are_ascii _ refl, tt),
    ),
  );
}

nucleus_length : (version : List ℕ) → IsVersion version → length (nucleus_bytes version) ≤ limit
nucleus_length version is = simp length-append (omega (arith, is.short))

pub nucleus_tree : ReadsBack → (version : List ℕ) → IsVersion version → IsTreeOf (nucleus_bytes version) limit (nucleus_data version)
nucleus_tree back version is =
    let same = nucleus_text version is in
    let short : length (compact_text (nucleus_data version)) ≤ limit = subst (λ (s : List ℕ). length s ≤ limit) (sym same) (nucleus_length version is) in
    subst (λ (s : List ℕ). IsTreeOf s limit (nucleus_data version)) same (back (nucleus_data version) limit (nucleus_regular version is) short)

pub nucleus_lines : (p : Platform) (version : List ℕ) → IsVersion version → AllHold (recipe_lines p (nucleus_data version))
nucleus_lines p version is = ((_, refl), (refl, ((_, refl), (refl, (refl, ((_, refl), ((_, refl, nucleus_named), (refl, ((_, refl), ((_, refl, is), tt))))))))))

-- alone it is in order
pub alone : (version : List ℕ) (c : Candidate) → IsNucleus version c → AreCandidates (c ∷ [])
alone version c is = record {
  rising = λ i j d below within. absurd (omega arith);
  read = All-cons IsRead c [] (record { os = []; architecture = [] }, is.read (record { os = []; architecture = [] })) (All-nil IsRead);
  count = lit< tt;
}
