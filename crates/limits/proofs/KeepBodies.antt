-- Steps within `do`, and those behind the name of a field, keep what holds.
use Rattle.std.proofs.Common.{◌≡◌, ℕ, ◌+◌, ltb, List, ◌∷◌, length, is_some, Some, None, codes, Option, arith}
use Rattle.model.specs.Action.{Operand, Field}
use Rattle.token.specs.declared.token.Sign.TheVariants.{Open, Close, Semicolon, Comma, Dot, Is, Equals, Less}
use Rattle.token.specs.Tokens.{Token}
use Rattle.source.specs.Names.{find, find_in}
use Rattle.source.specs.State.{Fork, Block, Do, Yes, No, Goal, Change, Ask, Purpose, By, Listed, Target, Tested, Operates, FieldPhase, Named, Behind, Member, Past, BodyPhase, DoOpen, Statement, ApplyName, ApplyEnd, Value, Settle, BehindYes, ElseOpen, InBody, Seen}
use Rattle.source.specs.Steps.{is_sign, says, number_of}
use Rattle.source.specs.Using.{has_room_for, add_listed, past, in_field}
use Rattle.source.specs.Bodies.{holds, opened, closing, innermost, change, ask, settle, statement, behind_yes}
use Rattle.source.specs.Reading.{in_body}
use Rattle.limits.specs.Doing.{OperandLimits}
use Rattle.limits.proofs.Rows.{found_entry, found_field, found_own}
use Rattle.limits.proofs.Stepping.{After, goes, stops, if_kept, known_kept, sign_kept, word_kept, number_kept}
use Rattle.limits.proofs.Sound.{BlockSound, State, Open as Opened, AllShaped, AllDeclared, Doing, Aiming, ForUse, HeaderFits, FieldFits, AtField, PastField, Held}
use Rattle.limits.proofs.Tracing.{pending, Trace}
use Rattle.limits.proofs.Traces.{act_traced, apply_traced, if_traced, yes_closed, no_closed, no_opened, else_traced, do_opened, do_closed, yes_in, unyes, no_in, unno}
use Rattle.limits.proofs.Changing.{doing_body}
use Rattle.limits.proofs.Choices.{by_state, by_phase}
use Rattle.limits.proofs.KeepTables.{named_keeps, behind_list_lem, listed_state, listed_phase}
use Rattle.limits.proofs.Bodies.{row_state, put_state, else_state, blocks_state, applied_state, finished_state, change_limits, ask_limits, last_there, still_there, behind_there, opened_do, opened_yes, opened_no, Left, left_open, LeftTrace, left_trace, Ending, inner_sound, others_sound}

opened_keeps : (b : Block) (at : ℕ) (d : Seen) → State d → AllShaped d.names → AllDeclared d → BlockSound (length d.names.fields + 1) (length d.body.rows) b → Opened (b ∷ d.body.blocks) →
    Trace (pending (b ∷ d.body.blocks)) d.body.rows d.body.applied (b ∷ d.body.blocks) → After Held (opened b at d)
opened_keeps b at d s w a k o t =
    if_kept (ltb (length d.body.blocks) 8) _ _ (λ e. goes (record { state = blocks_state _ d s (k, s.body.blocks); phase = record { shaped = w; all_declared = a; inside = record { within = o; trace = t } } })) (λ e. stops)

settle_keeps : (g : Goal) (o : Operand) (d : Seen) (x : Token) → State d → Aiming g d → OperandLimits (length d.names.fields + 1) o → After Held (settle g o d x)
settle_keeps (Change adds f at) o d x s h k =
    sign_kept Semicolon x _ (goes (record { state = row_state _ d s (change_limits _ adds f o h.goal k); phase = doing_body _ d (record { within = h.doing.inside.within; trace = act_traced _ d.body.rows d.body.applied d.body.blocks at (change adds f o) h.doing.inside.trace }) h.doing }))
settle_keeps (Ask less f at) o d x s h k =
    sign_kept Open x _ (opened_keeps _ x.at _ (row_state _ d s (ask_limits _ less f o h.goal k, omega arith)) h.doing.shaped h.doing.all_declared
    (record { there = last_there d.body.rows _; test = ask_limits _ less f o h.goal k }) (opened_yes _ d.body.blocks h.doing.inside.within)
    (yes_in _ d.body.blocks _ _ (if_traced (pending d.body.blocks) d.body.rows d.body.applied d.body.blocks at (ask less f o) h.doing.inside.trace)))

past_keeps : (u : Purpose) (f : ℕ) (d : Seen) (x : Token) → State d → ForUse u d → PastField u f d → After Held (past u f d x)
past_keeps (By k) f d x s h p = sign_kept Open x _ (goes (record { state = by_state k f d s h p.field; phase = by_phase k f d s h }))
past_keeps (Listed l) f d x s h p =
    if_kept (is_sign Comma x.kind) _ _ (λ e. goes (record { state = listed_state l f d s p.has_room_lem p.field; phase = record { use_of = listed_phase l f d h; there = tt } }))
    (λ e. sign_kept Semicolon x _ (goes (behind_list_lem l (add_listed l f d) (listed_state l f d s p.has_room_lem p.field) (listed_phase l f d h))))
past_keeps (Target adds at) f d x s h p = sign_kept Is x _ (goes (record { state = s; phase = record { doing = h; goal = p.field } }))
past_keeps (Tested at) f d x s h p =
    if_kept (is_sign Equals x.kind) _ _ (λ e. goes (record { state = s; phase = record { doing = h; goal = p.field } })) (λ e. sign_kept Less x _ (goes (record { state = s; phase = record { doing = h; goal = p.field } })))
past_keeps (Operates g) f d x s h p = settle_keeps g (Field f) d x s h p.field

member_fits : (u : Purpose) (k f : ℕ) (w : List ℕ) (d : Seen) → State d → HeaderFits u k → find_in d.names.fields k w ≡ Some f → FieldFits u d.names.fields f
member_fits (By h) k f w d s q e = found_own f d.names.fields h w (rw q at e)
member_fits (Listed l) k f w d s q e = found_field f d.names.fields k w s.names.fields.numbered e
member_fits (Target adds at) k f w d s q e = found_field f d.names.fields k w s.names.fields.numbered e
member_fits (Tested at) k f w d s q e = found_field f d.names.fields k w s.names.fields.numbered e
member_fits (Operates g) k f w d s q e = found_field f d.names.fields k w s.names.fields.numbered e

pub fields_keep : (u : Purpose) (p : FieldPhase) (d : Seen) (x : Token) → State d → ForUse u d → AtField u p d → After Held (in_field u p d x)
fields_keep u Named d x s h a = named_keeps u d x s h
fields_keep u (Behind k f at) d x s h a =
    if_kept (is_sign Dot x.kind) _ _
    (λ e. known_kept at k _ (λ j q. if_kept (has_room_for u d) _ _ (λ r. goes (record { state = s; phase = record { use_of = h; there = record { has_room_lem = r; header = a.header j q } } })) (λ r. stops)))
    (λ e. known_kept at f _ (λ g q. if_kept (has_room_for u d) _ _ (λ r. past_keeps u g d x s h (record { has_room_lem = r; field = a.field g q })) (λ r. stops)))
fields_keep u (Member k) d x s h a =
    word_kept x _ (λ w. known_kept x.at (find_in d.names.fields k w) _ (λ f e. goes (record {
      state = s;
      phase = record { use_of = h; there = record { has_room_lem = a.has_room_lem; field = member_fits u k f w d s a.header e } };
    })))
fields_keep u (Past f) d x s h a = past_keeps u f d x s h a

closing_keeps : (o : Option Block) (at : ℕ) (d : Seen) → State d → AllShaped d.names → AllDeclared d → Ending (length d.names.fields + 1) (length d.body.rows) o → Left o d.body.blocks →
    LeftTrace o d.body.rows d.body.applied d.body.blocks → After Held (closing o at d)
closing_keeps None at d s w a k l t = stops
closing_keeps (Some Do) at d s w a k l t = goes (record {
  state = finished_state at d s;
  phase = record { shaped = w; all_declared = a; at_rest = record { shut = l; trace = do_closed d.body.rows d.body.applied d.body.blocks l t } };
})
closing_keeps (Some (Yes f)) at d s w a k l t =
    let c = yes_closed (pending d.body.blocks) d.body.rows d.body.applied d.body.blocks f f.offset f.test (unyes f d.body.blocks d.body.rows d.body.applied t) in
    goes (record {
      state = put_state f.index _ d s (k.test, omega (arith, k.there));
      phase = record {
        doing = record { shaped = w; all_declared = a; inside = record { within = l; trace = c.trace } };
        traced = c;
        fork = record { there = still_there f.index f.index d.body.rows _ k.there; test = k.test };
      };
    })
closing_keeps (Some (No u)) at d s w a k l t = goes (record {
  state = applied_state _ _ (put_state u.index _ d s (omega arith));
  phase = record {
    shaped = w;
    all_declared = a;
    inside = record { within = l; trace = no_closed (pending d.body.blocks) d.body.rows d.body.applied d.body.blocks u u.offset (unno u d.body.blocks d.body.rows d.body.applied t) };
  };
})

statement_keeps : (d : Seen) (x : Token) → State d → Doing d → After Held (statement d x)
statement_keeps d x s h =
    if_kept (is_sign Close x.kind) _ _
    (λ e. closing_keeps (innermost d.body.blocks) x.at _ (blocks_state _ d s (others_sound _ _ d.body.blocks s.body.blocks)) h.shaped h.all_declared
    (inner_sound _ _ d.body.blocks s.body.blocks) (left_open d.body.blocks h.inside.within) (left_trace d.body.rows d.body.applied d.body.blocks h.inside.trace))
    (λ e. if_kept (says (codes "set") x.kind) _ _ (λ e1. goes (record { state = s; phase = record { use_of = h; there = tt } }))
    (λ e1. if_kept (says (codes "add") x.kind) _ _ (λ e2. goes (record { state = s; phase = record { use_of = h; there = tt } }))
    (λ e2. if_kept (says (codes "apply") x.kind) _ _ (λ e3. goes (record { state = s; phase = h }))
    (λ e3. if_kept (says (codes "if") x.kind) _ _ (λ e4. goes (record { state = s; phase = record { use_of = h; there = tt } })) (λ e4. stops)))))

behind_yes_lem : (f : Fork) (d : Seen) (x : Token) → Held (InBody (BehindYes f)) d → After Held (behind_yes f d x)
behind_yes_lem f d x h =
    if_kept (says (codes "else") x.kind) _ _
    (λ e. goes (record {
      state = applied_state _ _ (else_state f.index _ _ d h.state (h.phase.fork.test, omega (arith, h.phase.fork.there)) (omega arith));
      phase = record {
        shaped = h.phase.doing.shaped;
        all_declared = h.phase.doing.all_declared;
        within = h.phase.doing.inside.within;
        traced = else_traced (pending d.body.blocks) d.body.rows d.body.applied d.body.blocks f f.offset f.test x.at h.phase.traced;
        there = behind_there f.index d.body.rows _ _;
      };
    }))
    (λ e. statement_keeps d x h.state h.phase.doing)

pub bodies_keep : (p : BodyPhase) (d : Seen) (x : Token) → Held (InBody p) d → After Held (in_body p d x)
bodies_keep DoOpen d x h = sign_kept Open x _ (opened_keeps Do x.at d h.state h.phase.shaped h.phase.all_declared tt (opened_do d.body.blocks h.phase.at_rest.shut)
    (do_opened d.body.rows d.body.applied d.body.blocks h.phase.at_rest.shut h.phase.at_rest.trace))
bodies_keep Statement d x h = statement_keeps d x h.state h.phase
bodies_keep (ApplyName key) d x h =
    word_kept x _ (λ w. known_kept x.at (find d.names.tables w) _ (λ t e. if_kept (holds d.body.applied t) _ _ (λ e1. stops)
    (λ e1. goes (record { state = applied_state _ _ (row_state _ d h.state (found_entry t d.names.tables w h.state.names.tables.numbered e)); phase = doing_body _ d (record { within = h.phase.inside.within; trace = apply_traced _ d.body.rows d.body.applied d.body.blocks key t e1 h.phase.inside.trace }) h.phase }))))
bodies_keep ApplyEnd d x h = sign_kept Semicolon x _ (goes (record { state = h.state; phase = h.phase }))
bodies_keep (Value g) d x h =
    if_kept (is_some (number_of x.kind)) _ _ (λ e. number_kept x _ (λ n b. goes (record { state = h.state; phase = record { aiming = h.phase; operand = b } })))
    (λ e. named_keeps (Operates g) d x h.state h.phase)
bodies_keep (Settle g o) d x h = settle_keeps g o d x h.state h.phase.aiming h.phase.operand
bodies_keep (BehindYes f) d x h = behind_yes_lem f d x h
bodies_keep (ElseOpen t) d x h =
    sign_kept Open x _ (opened_keeps (No t) x.at d h.state h.phase.shaped h.phase.all_declared h.phase.there (opened_no t d.body.blocks h.phase.within)
    (no_in t d.body.blocks d.body.rows d.body.applied (no_opened (pending d.body.blocks) d.body.rows d.body.applied d.body.blocks t h.phase.traced)))
