-- JSON values: how deep a member nests.
use Rattle.std.proofs.Common.{◌≡◌, ◌≤◌, ℕ, List, Option, Some, None, arith, subst}
use Rattle.std.specs.Prelude.{IfSome}
use Rattle.std.specs.Ordering.{match_ordering, nat_cmp}
use Rattle.std.specs.Cmp.Lexicographic.{slice_cmp}
use Rattle.std.specs.declared.cmp.Ordering.{Ordering}
use Rattle.std.specs.declared.cmp.Ordering.TheVariants.{Less, Equal, Greater}
use Rattle.serde_json.specs.Data.{Data, null, boolean, number, string, array, object, Members, no_members, member, depth, members_depth}
use Rattle.serde_json.specs.Find.{get, get_member}

within-match : (o : Ordering) (a b : Option Data) (n : ℕ) → IfSome a (λ d. depth d ≤ n) → IfSome b (λ d. depth d ≤ n) → IfSome (match_ordering o a b a) (λ d. depth d ≤ n)
within-match Less a b n p q = p
within-match Equal a b n p q = q
within-match Greater a b n p q = p

within-weaker : (o : Option Data) (m n : ℕ) → m ≤ n → IfSome o (λ d. depth d ≤ m) → IfSome o (λ d. depth d ≤ n)
within-weaker None m n le p = p
within-weaker (Some d) m n le p = omega arith

members_within : (key : List ℕ) (members : Members) → IfSome (get_member key members) (λ d. depth d ≤ members_depth members)
members_within key no_members = tt
members_within key (member name value members) =
    within-match (slice_cmp nat_cmp key name) (get_member key members) (Some value) (members_depth (member name value members))
    (within-weaker (get_member key members) (members_depth members) (members_depth (member name value members)) (omega arith) (members_within key members))
    (omega arith)

-- a member nests no deeper than its object
pub get_within : (key : List ℕ) (value : Data) → IfSome (get key value) (λ d. depth d ≤ depth value)
get_within key null = tt
get_within key (boolean b) = tt
get_within key (number n) = tt
get_within key (string s) = tt
get_within key (array items) = tt
get_within key (object members) =
    within-weaker (get_member key members) (members_depth members) (depth (object members)) (omega arith) (members_within key members)

pub some_within : (key : List ℕ) (value found : Data) → get key value ≡ Some found → depth found ≤ depth value
some_within key value found e = subst (λ o. IfSome o (λ d. depth d ≤ depth value)) e (get_within key value)
