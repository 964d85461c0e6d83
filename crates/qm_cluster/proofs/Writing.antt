-- What a sink took of texts that are written one behind another.
use Rattle.std.proofs.Common.{◌≡◌, ◌≤◌, ℕ, Bool, true, false, cond, length, map, drop, take, get_or, arith, ◌-◌, List, [], ◌∷◌, ◌++◌, refl, sym, ◌∙◌, ap, subst, Option, Result, Ok, Err, append_assoc, IsErr, OnErr, OnOk, take_all}
use Rattle.std.specs.Io.KnownBytes.{Appends}
use Rattle.qm_node.specs.Ends.{TakesFront}
use Rattle.qm_cluster.proofs.Counting.{appends_on}
use Rattle.qm_node.proofs.Fronts.{front_of_prefix}
use Rattle.qm_history.specs.Common.{counted, TakesPrefix}
use Rattle.qm_history.specs.Ends.{NodeText, cuts_text, texts_printed}
use Rattle.qm_cluster.specs.Printing.{Writes}

pub front_more : (old new : Option (List ℕ)) (x y : List ℕ) → TakesFront old new x → TakesFront old new (x ++ y)
front_more old new x y f = (f.0, f.1 ++ y, ap (λ (l : List ℕ). l ++ y) f.2 ∙ append_assoc f.0 f.1 y, f.3)

pub front_on : (old mid new : Option (List ℕ)) (x y : List ℕ) → Appends old mid x → TakesFront mid new y → TakesFront old new (x ++ y)
front_on old mid new x y took f = (x ++ f.0, f.1, ap (λ (l : List ℕ). x ++ l) f.2 ∙ sym (append_assoc x f.0 f.1), appends_on x f.0 old mid new took f.3)

-- the first text failed
pub fails : (old new : Option (List ℕ)) (before now : ℕ) (x y : List ℕ) → TakesFront old new x → now ≡ counted before → TakesFront old new (x ++ y) × (now ≡ counted before)
fails old new before now x y front rose = (front_more old new x y front, rose)

-- the first text was written, and then the other
pub then_writes : {E T : Type 0} (r : Result T E) (old mid new : Option (List ℕ)) (before between now : ℕ) (x y : List ℕ)
    → Appends old mid x → between ≡ before → Writes r mid new between now y → Writes r old new before now (x ++ y)
then_writes (Ok done) old mid new before between now x y took same h = (appends_on x y old mid new took h.0, h.1 ∙ same)
then_writes (Err failed) old mid new before between now x y took same h = (front_on old mid new x y took h.0, h.1 ∙ ap counted same)

-- one text alone
pub writes_whole : {E T : Type 0} (r : Result T E) (old new : Option (List ℕ)) (before now : ℕ) (x : List ℕ)
    → OnOk r (Appends old new x) → OnErr r (TakesPrefix old new x) → OnOk r (now ≡ before) → OnErr r (now ≡ counted before) → Writes r old new before now x
writes_whole (Ok done) old new before now x all prefix quiet cause = (all, quiet)
writes_whole (Err failed) old new before now x all prefix quiet cause = (front_of_prefix old new x x refl prefix, cause)

-- one text, and behind it the whole of another
pub two_texts : {E T : Type 0} (r : Result T E) (old mid new : Option (List ℕ)) (before between now : ℕ) (x y z : List ℕ) → y ≡ z → Appends old mid x → between ≡ before
    → OnOk r (Appends mid new y) → OnErr r (TakesPrefix mid new y) → OnOk r (now ≡ between) → OnErr r (now ≡ counted between) → Writes r old new before now (x ++ z)
two_texts r old mid new before between now x y z same took quiet all prefix still cause =
    then_writes r old mid new before between now x z took quiet
    (writes_whole r mid new between now z (subst (λ (l : List ℕ). OnOk r (Appends mid new l)) same all) (subst (λ (l : List ℕ). OnErr r (TakesPrefix mid new l)) same prefix) still cause)

-- the sink failed, which is told
pub failed : {E T : Type 0} (r : Result T E) (old new : Option (List ℕ)) (before now : ℕ) (text : List ℕ) → IsErr r → TakesFront old new text → now ≡ counted before → Writes r old new before now text
failed (Ok done) old new before now text is front rose = cc
failed (Err e) old new before now text is front rose = (front, rose)

-- the texts of nodes, from the first one
pub printed_from : {A : Type 0} (f : A → NodeText) (last : List ℕ) (texts : List A) (first : A) → 1 ≤ length texts → first ≡ get_or texts 0 first
    → texts_printed last (map f texts) ≡ cond (cuts_text (f first).end) (f first).printed ((f first).printed ++ texts_printed last (map f (drop 1 texts)))
printed_from f last [] first some is = absurd (omega (arith, some))
printed_from {A} f last (t ∷ ts) first some is =
    ap (λ (a : A). cond (cuts_text (f a).end) (f a).printed ((f a).printed ++ texts_printed last (map f ts))) (sym is)

module _ (last first : List ℕ) (cuts : Bool) (more : List ℕ) where
  -- of the first text alone, the beginning of all
  pub front_of_first : (old new : Option (List ℕ)) → TakesFront old new first → TakesFront old new (cond cuts first (first ++ more))
  front_of_first old new front = by_cut cuts
    where
      by_cut : (b : Bool) → TakesFront old new (cond b first (first ++ more))
      by_cut true = front
      by_cut false = front_more old new first more front

  pub behind_first : {E T : Type 0} (r : Result T E) (old new : Option (List ℕ)) (before now : ℕ) → cuts ≡ false → Writes r old new before now (first ++ more) → Writes r old new before now (cond cuts first (first ++ more))
  behind_first r old new before now whole w = subst (λ (b : Bool). Writes r old new before now (cond b first (first ++ more))) (sym whole) w

-- one fewer
fewer : {A : Type 0} (texts : List A) → length (drop 1 texts) ≤ length texts - 1
fewer [] = omega arith
fewer (t ∷ texts) = omega arith

-- the texts behind the first one
pub rest_whole : {A : Type 0} (texts : List A) → take (length texts - 1) (drop 1 texts) ≡ drop 1 texts
rest_whole texts = take_all (length texts - 1) (drop 1 texts) (fewer texts)
