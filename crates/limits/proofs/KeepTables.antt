-- Steps within tables, and to the name of a field, keep what holds.
use Rattle.std.proofs.Common.{◌≡◌, ℕ, ◌+◌, ◌<◌, ◌≤◌, Bool, true, false, cond, ◌&&◌, eqb, ltb, List, length, Some, None, codes, Option, sym, refl, ap, ◌∙◌, arith}
use Rattle.std.proofs.lemmas.List.{length_push}
use Rattle.std.proofs.ByRecursion.{All-push}
use Rattle.std.proofs.lemmas.Bool.{ltb-true, eqb-true, and_parts}
use Rattle.token.specs.declared.token.Sign.TheVariants.{Open, Close, Semicolon}
use Rattle.token.specs.Tokens.{Token}
use Rattle.source.specs.Names.{find}
use Rattle.source.specs.State.{Part, Looks, Sets, Purpose, By, Listed, Target, Tested, Operates, TablePhase, TableName, TableOpen, LookWord, SetsWord, ListStart, LinesWord, Lines, LinesEnd, TableClose, InTable, Seen}
use Rattle.source.specs.Steps.{is_sign}
use Rattle.source.specs.Tabling.{table_taken, declare, in_table}
use Rattle.source.specs.Using.{only_if, header_for, field_for, field_named, behind_list, has_room_for, add_listed}
use Rattle.limits.specs.Numbering.{Below}
use Rattle.limits.specs.Tabling.{TableLimits}
use Rattle.limits.proofs.Rows.{none_some, found_own, found_bare}
use Rattle.limits.proofs.Apart.{none_there}
use Rattle.limits.proofs.Words.{Proper}
use Rattle.limits.proofs.Stepping.{After, goes, stops, if_kept, sign_kept, keyword_kept, word_kept, name_kept, number_kept, fresh_kept, room_kept}
use Rattle.limits.proofs.Sound.{State, Tabling, ForUse, BehindName, Held}
use Rattle.limits.proofs.Changing.{state_tables}
use Rattle.limits.proofs.Growing.{table_added}

same_header : (h k : ℕ) (o : Option ℕ) → only_if h o ≡ Some k → k ≡ h
same_header h k (Some g) e = go (eqb g h) refl e
  where
    go : (b : Bool) → eqb g h ≡ b → cond b (Some g) None ≡ Some k → k ≡ h
    go true q e = let p : g ≡ h = eqb-true g h q in let r : g ≡ k = cc in omega arith
    go false q e = none_some k e
same_header h k None e = none_some k e

behind_name_lem : (u : Purpose) (d : Seen) (w : List ℕ) → State d → BehindName u (header_for u d.names w) (field_for u d.names w) d
behind_name_lem (By h) d w s = record { header = λ k e. same_header h k (find d.names.headers w) e; field = λ g e. found_own g d.names.fields h w e }
behind_name_lem (Listed l) d w s = record { header = λ k e. tt; field = λ g e. found_bare g d.names w s.names.fields.numbered e }
behind_name_lem (Target adds at) d w s = record { header = λ k e. tt; field = λ g e. found_bare g d.names w s.names.fields.numbered e }
behind_name_lem (Tested at) d w s = record { header = λ k e. tt; field = λ g e. found_bare g d.names w s.names.fields.numbered e }
behind_name_lem (Operates g) d w s = record { header = λ k e. tt; field = λ g e. found_bare g d.names w s.names.fields.numbered e }

pub named_keeps : (u : Purpose) (d : Seen) (x : Token) → State d → ForUse u d → After Held (field_named u d x)
named_keeps u d x s h = word_kept x _ (λ w. goes (record { state = s; phase = record { use_of = h; there = behind_name_lem u d w s } }))

pub behind_list_lem : (p : Part) (d : Seen) → State d → Tabling d → Held (InTable (behind_list p)) d
behind_list_lem Looks d s h = record { state = s; phase = h }
behind_list_lem Sets d s h = record { state = s; phase = h }

-- one more field in a list
pub listed_state : (p : Part) (f : ℕ) (d : Seen) → State d → has_room_for (Listed p) d ≡ true → f < length d.names.fields + 1 → State (add_listed p f d)
listed_state Looks f d s r b = state_tables _ d (record {
  few_looks = omega (arith, length_push d.tables.looks f, ltb-true (length d.tables.looks) 4 r);
  few_sets = s.tables.few_sets;
  looks_there = All-push (Below (length d.names.fields + 1)) d.tables.looks f s.tables.looks_there b;
  sets_there = s.tables.sets_there;
  declared = s.tables.declared;
}) s
listed_state Sets f d s r b = state_tables _ d (record {
  few_looks = s.tables.few_looks;
  few_sets = omega (arith, length_push d.tables.sets f, ltb-true (length d.tables.sets) 8 r);
  looks_there = s.tables.looks_there;
  sets_there = All-push (Below (length d.names.fields + 1)) d.tables.sets f s.tables.sets_there b;
  declared = s.tables.declared;
}) s

pub listed_phase : (p : Part) (f : ℕ) (d : Seen) → Tabling d → Tabling (add_listed p f d)
listed_phase Looks f d h = record { shaped = h.shaped; one_left = h.one_left; at_rest = h.at_rest }
listed_phase Sets f d h = record { shaped = h.shaped; one_left = h.one_left; at_rest = h.at_rest }

declared_state : (n : ℕ) (d : Seen) → State d → 1 ≤ n → n ≤ 256 → State (declare n d)
declared_state n d s some few = state_tables _ d (record {
  few_looks = omega arith;
  few_sets = omega arith;
  looks_there = tt;
  sets_there = tt;
  declared = All-push (TableLimits (length d.names.fields + 1)) d.tables.declared _ s.tables.declared (record {
    few_looks = s.tables.few_looks;
    few_sets = s.tables.few_sets;
    some_lines = some;
    few_lines = few;
    looks_there = s.tables.looks_there;
    sets_there = s.tables.sets_there;
  });
}) s

pub tables_keep : (p : TablePhase) (d : Seen) (x : Token) → Proper x → Held (InTable p) d → After Held (in_table p d x)
tables_keep TableName d x r h =
    name_kept x _ (λ w word. fresh_kept (table_taken d.names w) x.at w _ (λ new s. room_kept x.at (length d.names.tables) 32 _ (λ l. goes (record {
      state = table_added d w (length d.names.tables) refl (record { some = r.some w word; short = s }) (none_there (find d.names.tables w) new) l h.state;
      phase = record {
        shaped = h.phase.shaped;
        one_left = ap (λ (n : ℕ). n + 1) h.phase.all_declared ∙ sym (length_push d.names.tables (record { name = w; number = length d.names.tables }));
        at_rest = h.phase.at_rest;
      };
    }))))
tables_keep TableOpen d x r h = sign_kept Open x _ (goes (record { state = h.state; phase = h.phase }))
tables_keep LookWord d x r h = keyword_kept (codes "look") x _ (goes (record { state = h.state; phase = h.phase }))
tables_keep SetsWord d x r h = keyword_kept (codes "sets") x _ (goes (record { state = h.state; phase = h.phase }))
tables_keep (ListStart p) d x r h =
    if_kept (is_sign Semicolon x.kind) _ _ (λ e. goes (behind_list_lem p d h.state h.phase)) (λ e. named_keeps (Listed p) d x h.state h.phase)
tables_keep LinesWord d x r h = keyword_kept (codes "lines") x _ (goes (record { state = h.state; phase = h.phase }))
tables_keep Lines d x r h =
    number_kept x _ (λ n b. if_kept (ltb 0 n && ltb n 257) _ _ (λ e. goes (record {
      state = h.state;
      phase = record {
        tabling = h.phase;
        some = ltb-true 0 n (and_parts (ltb 0 n) (ltb n 257) e).0;
        few = omega (arith, ltb-true n 257 (and_parts (ltb 0 n) (ltb n 257) e).1);
      };
    })) (λ e. stops))
tables_keep (LinesEnd n) d x r h = sign_kept Semicolon x _ (goes (record { state = h.state; phase = h.phase }))
tables_keep (TableClose n) d x r h =
    sign_kept Close x _ (goes (record {
      state = declared_state n d h.state h.phase.some h.phase.few;
      phase = record { shaped = h.phase.tabling.shaped; all_declared = length_push d.tables.declared _ ∙ h.phase.tabling.one_left; at_rest = h.phase.tabling.at_rest };
    }))
