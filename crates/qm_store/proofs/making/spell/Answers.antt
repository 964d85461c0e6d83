use Rattle.std.proofs.Common.{◌≡◌, ◌∙◌, sym, ap, subst, arith, below_more, ◌++◌, ◌∷◌, [], ℕ, ◌+◌, ◌<◌, List, length, map, take, get_or, Vec}
use Rattle.std.proofs.lemmas.List.{take_more, map-append, get_or_default}
use Rattle.std.specs.declared.alloc.Global.{Global}
use Rattle.qm_history.specs.Common.{Record, record_text, HasSpelling, contents}
use Rattle.qm_store.proofs.making.spell.Goals as goal

-- the spelling of one row more
texts_more : (rows : List Record) (i : ℕ) (row : Record) → i < length rows → get_or rows i row ≡ row → map record_text (take (i + 1) rows) ≡ map record_text (take i rows) ++ record_text row ∷ []
texts_more rows i row within is =
    ap (λ (l : List Record). map record_text l) (take_more rows i row within ∙ ap (λ (r : Record). take i rows ++ r ∷ []) is) ∙ map-append record_text (take i rows) (row ∷ [])

pub loop-row-preserved : goal.loop-row-preserved
loop-row-preserved c =
    let rows : List Record = c.args.rows.now in
    let i : ℕ = c.loop-row.row-index in
    let row : Record = c.row-item.result in
    let old : List (Vec ℕ Global) = c.loop-row.bodies.items in
    let text : Vec ℕ Global = c.in_ok-write_record.field-0 in
    let within : c.loop-row.row-index < length c.args.rows.now = omega arith in
    let spelled = c.in_ok-write_record.ensures in
    record {
      bodies = ap contents c.in_ok-push.ensures.items ∙ map-append (λ (v : Vec ℕ Global). v.items) old (text ∷ [])
          ∙ ap (λ (l : List (List ℕ)). l ++ text.items ∷ []) c.loop-row.invariant.bodies
          ∙ ap (λ (t : List ℕ). map record_text (take i rows) ++ t ∷ []) spelled.is
          ∙ sym (texts_more rows i row within (sym c.row-item.is));
      lawful = λ k d below. below_more (λ (n : ℕ). (e : Record) → HasSpelling (get_or rows n e)) i (λ n under e. c.loop-row.invariant.lawful n e under)
          (λ e. subst HasSpelling (c.row-item.is ∙ get_or_default rows i row e within) spelled.fits) k below d;
    }
