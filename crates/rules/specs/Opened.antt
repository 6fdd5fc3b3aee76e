-- Every rule opened: a declaration that says `unfolding opened` computes with all of them. Assumes nothing.
use Rattle.std.specs.Prelude.{ℕ}
use Rattle.rules.specs.Lists.{rising, has, once, one, tally, same, each, keep, keep_while, every}
use Rattle.rules.specs.Draws.{xor64, moved, drawn, draws}
use Rattle.rules.specs.Ring.{next, prev, place, places_of, is_round, turn, succ, pred, ahead, behind, beside, on_way, between, leg, along, path, path_cost, lap, recount}
use Rattle.rules.specs.Rewrite.{from, reverse_front, exchange_front, reverse_at, rotate_at, swap_at, len_of, stretch}
use Rattle.rules.specs.Queue.{push, push_all, waiting, flags_of}
use Rattle.rules.specs.Journal.{words_of, entry_at, entries_of, in_range, good_journal, carry_out, take_back, track_of, doing, cleared, undo_all, rollback, reversing}
use Rattle.rules.specs.Moves.{flip, exchange, or_move, seq3}
use Rattle.rules.specs.Plan.{leg_in, list_in, leg_of, near_of, alpha_of}
use Rattle.rules.specs.Improve.{ends_of, free3, free5, twos, sixths, side, trials, nothing, first_closing, touching, improve, or_else, improve_both}
use Rattle.rules.specs.Step.{among, begin, going, insert, best}
use Rattle.rules.specs.Lk.{breadth, cont_of, may_flip, conts, better, flipped, try_each, deepen, lk_side, lk_from}
use Rattle.rules.specs.Lk3.{breadth3, may_move, may_go_on, moved3, try_each3, level3, lk3_side, lk3_from}
use Rattle.rules.specs.State.{commit, load, undo, activated}
use Rattle.rules.specs.Descend.{step_from, short, journalled, leave, descending, descend}
use Rattle.rules.specs.Kicks.{longest, kind_at, shuffle_spans, global_spans, spans, shuffled, segment_kick, shuffle_kick, bridge_kick, window_kick, and_then, global_kick, kicked, kicked_state, kick}
use Rattle.rules.specs.Start.{nearest, without, start_from, start_round}
use Rattle.rules.specs.Exact.{orders, rounds, cheapest_of, exact_round}
use Rattle.rules.specs.Table.{member, members, unreached, least_of, table_word, table_of}
use Rattle.rules.specs.Search.{margin, restart_after, stop_after, shaken, restarted, kicked_once, turned, turns, search_from, search}
use Rattle.rules.specs.Memory.{room_in, plan_in, state_in, words_left}
use Rattle.rules.specs.Numbers.{verdict, within, good_sizes, good_step, good_kick, long, symmetric, good_list, agree, good_lengths, lent_checks, good_state, call_checks, commit_number, undo_number, descend_number, kick_number, load_number, search_number, start_number, exact_number}
use Rattle.rules.specs.Calls.{leaving, load_done, commit_done, undo_done, kick_done, descend_done, settings_in, search_done, table_left}
use Rattle.rules.specs.Bits.{bits, value_from, field, fields, bits_of, bytes_of}
use Rattle.rules.specs.Sheets.{header_in, near_at, alpha_at, end_at, sheet_length, triangle_at, triangle_leg, matrix_of, plan_on, settings_on, answer_bytes, answer_length, sheet_checks, solve, written}

unfoldable pub opened : ℕ
unfolding rising has once one tally same each keep keep_while every xor64 moved drawn draws next prev place places_of is_round turn succ pred ahead behind beside on_way between leg along path path_cost lap recount from reverse_front exchange_front reverse_at rotate_at swap_at len_of stretch push push_all waiting flags_of words_of entry_at entries_of in_range good_journal carry_out take_back track_of doing cleared undo_all rollback reversing flip exchange or_move seq3 leg_in list_in leg_of near_of alpha_of ends_of free3 free5 twos sixths side trials nothing first_closing touching improve or_else improve_both among begin going insert best breadth cont_of may_flip conts better flipped try_each deepen lk_side lk_from breadth3 may_move may_go_on moved3 try_each3 level3 lk3_side lk3_from commit load undo activated step_from short journalled leave descending descend longest kind_at shuffle_spans global_spans spans shuffled segment_kick shuffle_kick bridge_kick window_kick and_then global_kick kicked kicked_state kick nearest without start_from start_round orders rounds cheapest_of exact_round member members unreached least_of table_word table_of margin restart_after stop_after shaken restarted kicked_once turned turns search_from search room_in plan_in state_in words_left verdict within good_sizes good_step good_kick long symmetric good_list agree good_lengths lent_checks good_state call_checks commit_number undo_number descend_number kick_number load_number search_number start_number exact_number leaving load_done commit_done undo_done kick_done descend_done settings_in search_done table_left bits value_from field fields bits_of bytes_of header_in near_at alpha_at end_at sheet_length triangle_at triangle_leg matrix_of plan_on settings_on answer_bytes answer_length sheet_checks solve written
opened = 0
