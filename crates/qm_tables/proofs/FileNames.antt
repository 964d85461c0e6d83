-- The order of the names of files.
use Rattle.std.proofs.Common.{◌≡◌, ◌∙◌, ℕ, ◌&&◌, Bool, true, false, List, Option, None, Some, refl, ap, is_eq, bytes_eq, Equal}
use Rattle.std.specs.Option.{option_cmp, option_eq}
use Rattle.std.specs.Cmp.{IsTotalOrder, on_total, then_total, both_tied}
use Rattle.std.specs.Cmp.Lexicographic.{nat_list_cmp_total, options_total, texts_ties}
use Rattle.std.proofs.lemmas.Slice.Eq.{bytes_eq-Decides}
use Rattle.qm_model.specs.Common.{FileName, name_cmp, file_name_cmp, same_file_name}

pub file_names_total : IsTotalOrder file_name_cmp
file_names_total = then_total (on_total (λ (f : FileName). f.name) nat_list_cmp_total) (on_total (λ (f : FileName). f.extension) (options_total nat_list_cmp_total))

options_tied : (a b : Option (List ℕ)) → option_eq bytes_eq a b ≡ is_eq (option_cmp name_cmp a b)
options_tied None None = refl
options_tied None (Some b) = refl
options_tied (Some a) None = refl
options_tied (Some a) (Some b) = texts_ties a b

-- two names are the same where the order doesn't tell them apart
pub same_is_tied : (a b : FileName) → same_file_name a b ≡ is_eq (file_name_cmp a b)
same_is_tied a b = both_tied _ _ _ _ (texts_ties a.name b.name) (options_tied a.extension b.extension)

options_same : (a b : Option (List ℕ)) → option_eq bytes_eq a b ≡ true → a ≡ b
options_same None None e = refl
options_same None (Some b) e = cc
options_same (Some a) None e = cc
options_same (Some a) (Some b) e = ap Some ((bytes_eq-Decides a b).0 e)

both : (s t : Bool) → (s && t) ≡ true → (s ≡ true) × (t ≡ true)
both true t e = (refl, e)
both false t e = cc

pub same_name : (a b : FileName) → same_file_name a b ≡ true → a ≡ b
same_name a b e =
    let parts = both (bytes_eq a.name b.name) (option_eq bytes_eq a.extension b.extension) e in
    λ i. record { name = (bytes_eq-Decides a.name b.name).0 parts.0 i; extension = options_same a.extension b.extension parts.1 i }

pub tied_name : (a b : FileName) → file_name_cmp a b ≡ Equal → a ≡ b
tied_name a b e = same_name a b (same_is_tied a b ∙ ap is_eq e)
