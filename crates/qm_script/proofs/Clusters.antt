-- The nodes that a word names are those that a site can have.
use Rattle.std.proofs.Common.{◌≡◌, ◌≢◌, ◌<◌, ◌≤◌, ◌+◌, ◌==◌, ℕ, zero, suc, Bool, true, false, ◌||◌, nat_le, cond, if◌then◌else◌, List, [], ◌∷◌, ◌++◌, map, length, Option, None, Some, IfSome, All, AllPairs, refl, sym, ◌∙◌, ap, subst, arith, get_or, length-append, leb-true, leb-false, option_and_then, bytes_eq}
use Rattle.std.specs.List.{list_any, slice_split}
use Rattle.std.proofs.lemmas.List.Elements.{All-append, All-cons, All-nil, All-map}
use Rattle.std.proofs.lemmas.List.Quantifiers.{all_pairs_push}
use Rattle.std.proofs.lemmas.List.{get_or-map, length-map}
use Rattle.std.proofs.lemmas.Slice.Eq.{bytes_eq-Decides}
use Rattle.std.proofs.lemmas.List.Splits.{length-slice_split}
use Rattle.qm_kinds.specs.Files.{name_of}
use Rattle.qm_history.specs.Common.{NODES_LIMIT, NODE_NAME_BYTES, Node, AreNodes, is_among, site_of}
use Rattle.qm_model.specs.Script.{node_name_of}
use Rattle.qm_script.specs.Sites.{nodes_from, nodes_of, with_node}
use Rattle.qm_script.proofs.Commas.{is_comma}

-- names that nodes can have, each once, not too many
record AreNamed (names : List (List ℕ)) : Type 0 where
  few : length names ≤ NODES_LIMIT
  short : All (λ (name : List ℕ). length name ≤ NODE_NAME_BYTES) names
  distinct : AllPairs (λ (a b : List ℕ). a ≢ b) names

same_name : (name : List ℕ) → bytes_eq name name ≡ true
same_name name = (bytes_eq-Decides name name).1 refl

opposite : (b : Bool) → b ≡ true → b ≡ false → ⊥
opposite true is isnt = cc
opposite false is isnt = cc

first_differs : (name other : List ℕ) (rest same : Bool) → bytes_eq name other ≡ same → (same || rest) ≡ false → other ≢ name
first_differs name other rest true is none e = absurd (cc)
first_differs name other rest false is none e =
    let here : bytes_eq name name ≡ false = ap (bytes_eq name) (sym e) ∙ is in
    absurd (opposite (bytes_eq name name) (same_name name) here)

rest_differs : (same rest : Bool) → (same || rest) ≡ false → rest ≡ false
rest_differs true rest none = absurd (cc)
rest_differs false rest none = none

not_among : (names : List (List ℕ)) (name : List ℕ) → is_among names name ≡ false → (k : ℕ) (d : List ℕ) → k < length names → get_or names k d ≢ name
not_among [] name none k d within = absurd (omega (arith, within))
not_among (other ∷ names) name none zero d within = first_differs name other (is_among names name) (bytes_eq name other) refl none
not_among (other ∷ names) name none (suc k) d within =
    not_among names name (rest_differs (bytes_eq name other) (is_among names name) none) k d (omega (arith, within))

first_false : (a b : Bool) → (a || b) ≡ false → a ≡ false
first_false true b h = h
first_false false b h = refl

-- ---- one more node

added : (names : List (List ℕ)) (name : List ℕ) (refuses : Bool) → AreNamed names → length name ≤ NODE_NAME_BYTES
    → (is_among names name || nat_le NODES_LIMIT (length names)) ≡ refuses
    → IfSome (cond refuses None (Some (names ++ name ∷ []))) AreNamed
added names name true named short is = tt
added names name false named short is =
    let room = leb-false NODES_LIMIT (length names) (rest_differs (is_among names name) (nat_le NODES_LIMIT (length names)) is) in record {
      few = simp length-append (omega (arith, room));
      short = All-append (λ (n : List ℕ). length n ≤ NODE_NAME_BYTES) names (name ∷ []) named.short
          (All-cons (λ (n : List ℕ). length n ≤ NODE_NAME_BYTES) name [] short (All-nil (λ (n : List ℕ). length n ≤ NODE_NAME_BYTES)));
      distinct = all_pairs_push (λ (a b : List ℕ). a ≢ b) names name named.distinct
          (not_among names name (first_false (is_among names name) (nat_le NODES_LIMIT (length names)) is));
    }

short_name : (name : List ℕ) (is : Bool) → nat_le (length name) NODE_NAME_BYTES ≡ is → IfSome (cond is (Some name) None) (λ (n : List ℕ). length n ≤ NODE_NAME_BYTES)
short_name name true is = leb-true (length name) NODE_NAME_BYTES is
short_name name false is = tt

named_short : (name : Option (List ℕ)) → IfSome (option_and_then (λ (n : List ℕ). if nat_le (length n) NODE_NAME_BYTES then Some n else None) name) (λ (n : List ℕ). length n ≤ NODE_NAME_BYTES)
named_short None = tt
named_short (Some name) = short_name name (nat_le (length name) NODE_NAME_BYTES) refl

one_added : (names : List (List ℕ)) (name : Option (List ℕ)) → AreNamed names → IfSome name (λ (n : List ℕ). length n ≤ NODE_NAME_BYTES)
    → IfSome (option_and_then (with_node names) name) AreNamed
one_added names None named short = tt
one_added names (Some name) named short = added names name (is_among names name || nat_le NODES_LIMIT (length names)) named short refl

mutual_from : (more : Option (List (List ℕ))) (parts : List (List ℕ)) → IfSome more AreNamed
    → ((names : List (List ℕ)) → AreNamed names → IfSome (nodes_from names parts) AreNamed)
    → IfSome (option_and_then (λ (names : List (List ℕ)). nodes_from names parts) more) AreNamed
mutual_from None parts named from = tt
mutual_from (Some names) parts named from = from names named

named_from : (parts : List (List ℕ)) (names : List (List ℕ)) → AreNamed names → IfSome (nodes_from names parts) AreNamed
named_from [] names named = named
named_from (part ∷ parts) names named =
    mutual_from (option_and_then (with_node names) (node_name_of part)) parts (one_added names (node_name_of part) named (named_short (name_of part)))
    (named_from parts)

none_named : AreNamed []
none_named = record { few = omega arith; short = All-nil (λ (n : List ℕ). length n ≤ NODE_NAME_BYTES); distinct = λ i j d lt within. absurd (omega (arith, within)) }

-- ---- a node at least

grown : (names more : List (List ℕ)) (name : Option (List ℕ)) → Some more ≡ option_and_then (with_node names) name → length names < length more
grown names more None is = absurd (cc)
grown names more (Some name) is = grown_by (is_among names name || nat_le NODES_LIMIT (length names)) is
  where
    grown_by : (refuses : Bool) → Some more ≡ cond refuses None (Some (names ++ name ∷ [])) → length names < length more
    grown_by true is = absurd (cc)
    grown_by false is = let same : more ≡ names ++ name ∷ [] = cc in rw same (simp length-append (omega arith))

kept_behind : (part : List ℕ) (parts names all : List (List ℕ)) → ((more rest : List (List ℕ)) → Some rest ≡ nodes_from more parts → length more ≤ length rest)
    → (more : Option (List (List ℕ))) → more ≡ option_and_then (with_node names) (node_name_of part)
    → Some all ≡ option_and_then (λ (ns : List (List ℕ)). nodes_from ns parts) more → length names ≤ length all
kept_behind part parts names all kept None at is = absurd (cc)
kept_behind part parts names all kept (Some more) at is = omega (arith, grown names more (node_name_of part) at, kept more all is)

kept_from : (parts names all : List (List ℕ)) → Some all ≡ nodes_from names parts → length names ≤ length all
kept_from [] names all is = let same : all ≡ names = cc in rw same (omega arith)
kept_from (part ∷ parts) names all is = kept_behind part parts names all (kept_from parts) (option_and_then (with_node names) (node_name_of part)) refl is

more_behind : (part : List ℕ) (parts names all : List (List ℕ)) (more : Option (List (List ℕ))) → more ≡ option_and_then (with_node names) (node_name_of part)
    → Some all ≡ option_and_then (λ (ns : List (List ℕ)). nodes_from ns parts) more → length names < length all
more_behind part parts names all None at is = absurd (cc)
more_behind part parts names all (Some more) at is = omega (arith, grown names more (node_name_of part) at, kept_from parts more all is)

some_from : (parts all : List (List ℕ)) → 0 < length parts → Some all ≡ nodes_from [] parts → 0 < length all
some_from [] all some is = absurd (omega (arith, some))
some_from (part ∷ parts) all some is = more_behind part parts [] all (option_and_then (with_node []) (node_name_of part)) refl is

-- ---- the nodes of the site

abbrev node_of : List ℕ → Node
node_of name = record { name = name; up = false }

names_of : (names : List (List ℕ)) → map (λ (n : Node). n.name) (map node_of names) ≡ names
names_of [] = refl
names_of (name ∷ names) = ap (λ (ns : List (List ℕ)). name ∷ ns) (names_of names)

distinct_nodes : (nodes : List Node) → AllPairs (λ (a b : List ℕ). a ≢ b) (map (λ (n : Node). n.name) nodes) → AllPairs (λ (a b : Node). a.name ≢ b.name) nodes
distinct_nodes nodes h i j d lt within same =
    h i j d.name lt (simp length-map within)
    (get_or-map (λ (n : Node). n.name) nodes i d d.name (omega (arith, lt, within)) ∙ same ∙ sym (get_or-map (λ (n : Node). n.name) nodes j d d.name within))

pub make_a_site : (word : List ℕ) (names : List (List ℕ)) → nodes_of word ≡ Some names → AreNodes (site_of names).nodes
make_a_site word names is =
    let named = subst (λ (o : Option (List (List ℕ))). IfSome o AreNamed) is (named_from (slice_split is_comma word) [] none_named) in record {
      some = simp length-map (some_from (slice_split is_comma word) names (omega (arith, length-slice_split is_comma word)) (sym is));
      few = simp length-map named.few;
      short = All-map (λ (n : Node). length n.name ≤ NODE_NAME_BYTES) node_of names named.short;
      distinct = distinct_nodes (map node_of names) (subst (AllPairs (λ (a b : List ℕ). a ≢ b)) (sym (names_of names)) named.distinct);
    }
