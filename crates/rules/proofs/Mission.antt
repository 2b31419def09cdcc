-- The user's three demands and document 02's requests, proved: one theorem. Each field is the law of the same name.
-- Assumes nothing.
use Rattle.rules.specs.Mission.{Demand1, Demand2, Demand3, InlinedCallers, StubbornItems, GoesOn, WhereItStood, UnloadedLevel, TwoForms}
use Rattle.rules.specs.Mission.{MovedForms, ReloadedCode, Mission}
use Rattle.rules.proofs.Tables.Sound.{soundness_is_tested}
use Rattle.rules.proofs.Tables.Maps.{map_exists}
use Rattle.rules.proofs.Tables.Findings.{recover_answers, recovery_accepts}
use Rattle.rules.proofs.Calls.Queries.{query_is_a_call, query_answers, query_counts, probes_are_few, probes_are_distinct}
use Rattle.rules.proofs.Calls.Refusals.{refusals_in_order}
use Rattle.rules.proofs.Calls.StoreLists.{stores_as_written}
use Rattle.rules.proofs.Calls.StoreNumbers.{store_numbers}
use Rattle.rules.proofs.Calls.LentLists.{change_answers}
use Rattle.rules.proofs.Calls.Making.{make_answers}
use Rattle.rules.proofs.Calls.Creating.{create_answers, created_is_empty}
use Rattle.rules.proofs.Calls.StepPlacing.{step_is_a_call}
use Rattle.rules.proofs.Calls.StepSentences.{step_takes_the_first, no_item_blocks, six_exactly, eleven_exactly, six_is_not_eleven}
use Rattle.rules.proofs.Calls.StepSentences.{takes_the_first_from, eleven_from_exactly, six_from_exactly}
use Rattle.rules.proofs.Calls.StepFromSentences.{step_from_is_a_call, zero_is_the_step, refused_tells_zero, past_the_level, as_the_step}
use Rattle.rules.proofs.Calls.StuckItems.{stuck_stays_stuck, inserts_give_no_place}
use Rattle.rules.proofs.Growth.Passes.{pass_ends, pass_places_all, looks_until_found, pass_looks_at_few}
use Rattle.rules.proofs.Calls.Inside.{stores_inside, token_stores_low}
use Rattle.rules.proofs.Calls.Inserting.{insert_answers}
use Rattle.rules.proofs.Calls.Updating.{update_answers, delete_answers}
use Rattle.rules.proofs.Calls.GrowthSteps.{step_answers}
use Rattle.rules.proofs.Calls.StateChanges.{begin_answers, shrink_answers, back_answers, end_answers}
use Rattle.rules.proofs.Calls.ResizeSentences.{shrink_stores, levels_are_three, levels_shrink, seven_exactly, seventeen_exactly, back_stores}
use Rattle.rules.proofs.Calls.FormSentences.{mixed_bits, places_by_hash, tag_below_hash, words_exactly, wrong_words_are_twelve, stores_change_one_slot}
use Rattle.rules.proofs.Calls.FormSentences.{token_stores_keep, holds_by_tag, wrong_tag_hides, tags_miss_nothing, no_tags_in_form1}
use Rattle.rules.proofs.Calls.Overlays.{asked_refusals, asked_answers, asked_looks_at_few, parts_agree, overlay_answers}
use Rattle.rules.proofs.Cutting.HiddenKeys.{hidden_changes_nothing}
use Rattle.rules.proofs.Calls.Conversions.{convert_refusals, convert_leaves, flag_is_twelve, convert_keeps_the_map, there_and_back, old_words_play_no_part}
use Rattle.rules.proofs.Calls.ResizeSentences.{levels_turn, turned_twice, eight_exactly, own_stores_count}
use Rattle.rules.proofs.Calls.MadeLists.{make_takes_the_list}
use Rattle.rules.proofs.Cutting.Recurring.{recovery_may_be_cut}
use Rattle.rules.proofs.Cutting.MadeCuts.{cuts_are_safe}
use Rattle.rules.proofs.Growth.GrowthCost.{growth_bound, shrink_bound}
use Rattle.rules.proofs.Growth.CostlyShrink.{twenty_too_few}
use Rattle.rules.proofs.Calls.ChainRefusals.{chain_refusals}
use Rattle.rules.proofs.Calls.Chains.{chain_writes, chain_counts, chain_looks_at_few, chain_answers}
use Rattle.rules.proofs.Cutting.ChainCuts.{chains_after_cuts}
use Rattle.rules.proofs.Calls.Spots.{found_stood, lookup_stood, refused_stood_nowhere, the_one_stood, changes_go_there, chain_stood}

pub demand1 : Demand1
demand1 =
    record {
      refusals_in_order = refusals_in_order;
      stores_inside = stores_inside;
      token_stores_low = token_stores_low;
      change_answers = change_answers;
      create_answers = create_answers;
      make_answers = make_answers;
      step_is_a_call = step_is_a_call;
      query_is_a_call = query_is_a_call;
    }

pub demand2 : Demand2
demand2 =
    record {
      soundness_is_tested = soundness_is_tested;
      map_exists = map_exists;
      created_is_empty = created_is_empty;
      query_answers = query_answers;
      insert_answers = insert_answers;
      update_answers = update_answers;
      delete_answers = delete_answers;
      begin_answers = begin_answers;
      shrink_answers = shrink_answers;
      back_answers = back_answers;
      step_answers = step_answers;
      end_answers = end_answers;
      recover_answers = recover_answers;
    }

pub demand3 : Demand3
demand3 =
    record {
      store_numbers = store_numbers;
      stores_as_written = stores_as_written;
      make_takes_the_list = make_takes_the_list;
      cuts_are_safe = cuts_are_safe;
      recovery_accepts = recovery_accepts;
      recovery_may_be_cut = recovery_may_be_cut;
      growth_bound = growth_bound;
      shrink_bound = shrink_bound;
      probes_are_few = probes_are_few;
      probes_are_distinct = probes_are_distinct;
      query_counts = query_counts;
    }

pub inlined_callers : InlinedCallers
inlined_callers =
    record {
      chain_refusals = chain_refusals;
      chain_writes = chain_writes;
      chain_counts = chain_counts;
      chain_looks_at_few = chain_looks_at_few;
      chain_answers = chain_answers;
      chains_after_cuts = chains_after_cuts;
    }

pub stubborn_items : StubbornItems
stubborn_items =
    record {
      step_takes_the_first = step_takes_the_first;
      no_item_blocks = no_item_blocks;
      six_exactly = six_exactly;
      eleven_exactly = eleven_exactly;
      six_is_not_eleven = six_is_not_eleven;
    }

pub goes_on : GoesOn
goes_on =
    record {
      step_from_is_a_call = step_from_is_a_call;
      zero_is_the_step = zero_is_the_step;
      takes_the_first_from = takes_the_first_from;
      eleven_from_exactly = eleven_from_exactly;
      six_from_exactly = six_from_exactly;
      refused_tells_zero = refused_tells_zero;
      past_the_level = past_the_level;
      as_the_step = as_the_step;
      stuck_stays_stuck = stuck_stays_stuck;
      inserts_give_no_place = inserts_give_no_place;
      pass_ends = pass_ends;
      pass_places_all = pass_places_all;
      looks_until_found = looks_until_found;
      pass_looks_at_few = pass_looks_at_few;
    }

pub where_it_stood : WhereItStood
where_it_stood =
    record {
      found_stood = found_stood;
      lookup_stood = lookup_stood;
      refused_stood_nowhere = refused_stood_nowhere;
      the_one_stood = the_one_stood;
      changes_go_there = changes_go_there;
      chain_stood = chain_stood;
    }

pub unloaded_level : UnloadedLevel
unloaded_level =
    record {
      shrink_stores = shrink_stores;
      levels_shrink = levels_shrink;
      seventeen_exactly = seventeen_exactly;
      seven_exactly = seven_exactly;
      levels_are_three = levels_are_three;
      back_stores = back_stores;
      levels_turn = levels_turn;
      turned_twice = turned_twice;
      eight_exactly = eight_exactly;
      own_stores_count = own_stores_count;
      twenty_too_few = twenty_too_few;
    }

pub two_forms : TwoForms
two_forms =
    record {
      mixed_bits = mixed_bits;
      places_by_hash = places_by_hash;
      tag_below_hash = tag_below_hash;
      words_exactly = words_exactly;
      wrong_words_are_twelve = wrong_words_are_twelve;
      stores_change_one_slot = stores_change_one_slot;
      token_stores_keep = token_stores_keep;
      holds_by_tag = holds_by_tag;
      wrong_tag_hides = wrong_tag_hides;
      tags_miss_nothing = tags_miss_nothing;
      no_tags_in_form1 = no_tags_in_form1;
    }

pub moved_forms : MovedForms
moved_forms =
    record {
      convert_refusals = convert_refusals;
      flag_is_twelve = flag_is_twelve;
      convert_leaves = convert_leaves;
      old_words_play_no_part = old_words_play_no_part;
      convert_keeps_the_map = convert_keeps_the_map;
      there_and_back = there_and_back;
    }

pub reloaded_code : ReloadedCode
reloaded_code =
    record {
      asked_answers = asked_answers;
      overlay_answers = overlay_answers;
      parts_agree = parts_agree;
      asked_looks_at_few = asked_looks_at_few;
      asked_refusals = asked_refusals;
      hidden_changes_nothing = hidden_changes_nothing;
    }

pub mission : Mission
mission =
    record {
      any_input = demand1;
      plain_map = demand2;
      safe_cuts = demand3;
      inlined_callers = inlined_callers;
      stubborn_items = stubborn_items;
      goes_on = goes_on;
      where_it_stood = where_it_stood;
      unloaded_level = unloaded_level;
      two_forms = two_forms;
      moved_forms = moved_forms;
      reloaded_code = reloaded_code;
    }
