use Rattle.std.proofs.Common.{◌≡◌, ◌≤◌, ◌∙◌, length, true, false, inl, inr, refl, sym, arith}
use Rattle.std.specs.List.{list_any}
use Rattle.recipe_reader.specs.Artifacts.{has_scheme, is_slash, file_in, IsUri}
use Rattle.recipe_reader.proofs.Listing.{uri_file, no_slash_any, file_is, has_slash}
use Rattle.recipe_reader.proofs.artifact.file_of.Goals as goal

pub returns-in-Some : goal.returns-in-Some
returns-in-Some c =
    let s = c.args.uri.now in
    let h = c.in-Some.ensures.cases in
    let in_s : h.1 ≤ length s = omega (arith, h.7) in
    let scheme : has_scheme s ≡ true = cc in
    let is : c.in-Some.file.now ≡ file_in s = h.4 ∙ sym (file_is s h.0 h.1 h.2.1 h.2.0 in_s) in
    uri_file s c.in-Some.file.now c.file_named.result scheme (has_slash s h.0 h.1 h.2.1 h.2.0 in_s) is c.file_named.ensures

pub returns-in-None : goal.returns-in-None
returns-in-None c =
    let s = c.args.uri.now in
    let none : list_any is_slash s ≡ false = no_slash_any s c.in-None.ensures.cases in
    inr (inl ((λ (u : IsUri s). let some : list_any is_slash s ≡ true = u.slash in cc), refl))
