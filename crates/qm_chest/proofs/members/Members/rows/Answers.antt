use Rattle.std.proofs.Common.{◌≡◌, List, Result, Ok, None, Some, subst, IfOk}
use Rattle.qm_history.specs.Common.{Row, Refusal}
use Rattle.qm_image.specs.Refusing.{Refuses}
use Rattle.qm_acting.specs.Standing.{standing_of}
use Rattle.qm_chest.proofs.members.Members.rows.Goals as goal

pub returns-in_default-clause-rows : goal.returns-in_default-clause-rows
returns-in_default-clause-rows g c = λ name named.
    let st = standing_of c.args.manager.now in
    subst (λ (r : Result (List Row) Refusal). IfOk c.view.result (λ rows. r ≡ Ok rows))
    (c.the_manager_shows_in_its_listing.ensures st.system None (Some (record { node = name; epoch = st.recorded.says.epoch })) c.args.query.now c.in_default.not-Manager)
    c.view.ensures.rows

pub returns-in_default-clause-refused : goal.returns-in_default-clause-refused
returns-in_default-clause-refused g c = λ name named.
    let st = standing_of c.args.manager.now in
    subst (Refuses c.view.result)
    (c.the_manager_shows_in_its_listing.ensures st.system None (Some (record { node = name; epoch = st.recorded.says.epoch })) c.args.query.now c.in_default.not-Manager)
    c.view.ensures.refused
