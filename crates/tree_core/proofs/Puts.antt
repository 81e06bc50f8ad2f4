-- What is put in stays in order.
use Rattle.std.proofs.Common.{◌≡◌, ℕ, List, Option, Some, IfSome, Ordering, Less, Equal, Greater, nat_cmp, refl, ap, ◌∙◌}
use Rattle.std.specs.Prelude.{IsUtf8}
use Rattle.std.specs.Ordering.{match_ordering, ordering_reverse}
use Rattle.std.specs.Cmp.Lexicographic.{slice_cmp, nat_list_cmp_total}
use Rattle.serde_json.specs.Data.{Data, Members, no_members, member, put}
use Rattle.tree_core.specs.Regular.{IsBelowAll, IsOrderly, MembersAreOrderly, HasUtf8, MembersHaveUtf8}

below_put_at : (o : Ordering) (l k : List ℕ) (d : Data) (m : List ℕ) (e : Data) (ms : Members) → slice_cmp nat_cmp l k ≡ Less →
    IsBelowAll l (member m e ms) → IsBelowAll l (put k d ms)
    → IsBelowAll l (match_ordering o (member k d (member m e ms)) (member m d ms) (member m e (put k d ms)))
below_put_at Less l k d m e ms new old later = (new, old)
below_put_at Equal l k d m e ms new old later = old
below_put_at Greater l k d m e ms new old later = (old.0, later)

pub below_put : (l k : List ℕ) (d : Data) (ms : Members) → slice_cmp nat_cmp l k ≡ Less → IsBelowAll l ms → IsBelowAll l (put k d ms)
below_put l k d no_members new old = (new, tt)
below_put l k d (member m e ms) new old = below_put_at (slice_cmp nat_cmp k m) l k d m e ms new old (below_put l k d ms new old.1)

pub below_later : (k m : List ℕ) (ms : Members) → slice_cmp nat_cmp k m ≡ Less → IsBelowAll m ms → IsBelowAll k ms
below_later k m no_members first h = tt
below_later k m (member l d ms) first h = (nat_list_cmp_total.trans k m l first h.0, below_later k m ms first h.1)

orderly_put_at : (o : Ordering) (k : List ℕ) (d : Data) (m : List ℕ) (e : Data) (ms : Members) → slice_cmp nat_cmp k m ≡ o → IsOrderly d →
    MembersAreOrderly (member m e ms) → MembersAreOrderly (put k d ms)
    → MembersAreOrderly (match_ordering o (member k d (member m e ms)) (member m d ms) (member m e (put k d ms)))
orderly_put_at Less k d m e ms is h old later = ((is, below_later k m ms is old.0), h, old)
orderly_put_at Equal k d m e ms is h old later = (old.0, h, old.2)
orderly_put_at Greater k d m e ms is h old later =
    let above : slice_cmp nat_cmp m k ≡ Less = nat_list_cmp_total.antisymm m k ∙ ap ordering_reverse is in
    (below_put m k d ms above old.0, old.1, later)

pub orderly_put : (k : List ℕ) (d : Data) (ms : Members) → IsOrderly d → MembersAreOrderly ms → MembersAreOrderly (put k d ms)
orderly_put k d no_members h old = (tt, h, tt)
orderly_put k d (member m e ms) h old = orderly_put_at _ k d m e ms refl h old (orderly_put k d ms h old.2)

put_utf8_at : (o : Ordering) (k : List ℕ) (d : Data) (l : List ℕ) (e : Data) (ms : Members) → IsUtf8 k → HasUtf8 d → MembersHaveUtf8 (member l e ms) →
    MembersHaveUtf8 (put k d ms)
    → MembersHaveUtf8 (match_ordering o (member k d (member l e ms)) (member l d ms) (member l e (put k d ms)))
put_utf8_at Less k d l e ms named h old later = (named, h, old)
put_utf8_at Equal k d l e ms named h old later = (old.0, h, old.2)
put_utf8_at Greater k d l e ms named h old later = (old.0, old.1, later)

pub put_utf8 : (k : List ℕ) (d : Data) (ms : Members) → IsUtf8 k → HasUtf8 d → MembersHaveUtf8 ms → MembersHaveUtf8 (put k d ms)
put_utf8 k d no_members named h old = (named, h, tt)
put_utf8 k d (member l e ms) named h old = put_utf8_at (slice_cmp nat_cmp k l) k d l e ms named h old (put_utf8 k d ms named h old.2)

-- what stands at a key
pub found_at : (P : Data → Type 0) (o : Ordering) (e : Data) (rest : Option Data) → P e → IfSome rest P → IfSome (match_ordering o rest (Some e) rest) P
found_at P Less e rest h later = later
found_at P Equal e rest h later = h
found_at P Greater e rest h later = later
