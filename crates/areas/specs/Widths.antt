-- How many numbers an entry of each table has, what a row's and a run's numbers are, and how many entries a table has at the most.
-- Definitions only: each number is named here, and nowhere else.
use Rattle.std.specs.Prelude.{ℕ}

-- the most entries of a table
abbrev pub most : ℕ
most = 1048576

-- ---- numbers an entry, by table

-- 1: sixteen f32, row by row
abbrev pub matrix_width : ℕ
matrix_width = 16

-- 2: six f32, scale and translation
abbrev pub viewport_width : ℕ
viewport_width = 6

-- 3: four f32, coordinate pair and texgen pair
abbrev pub scale_width : ℕ
scale_width = 4

-- 4: six f32, direction and colour
abbrev pub light_width : ℕ
light_width = 6

-- 5: six f32, S and T
abbrev pub lookat_width : ℕ
lookat_width = 6

-- 6: two i16, multiplier and offset
abbrev pub fog_width : ℕ
fog_width = 2

-- 7: the f32 of a row
abbrev pub float_width : ℕ
float_width = 9

-- 7: the u32 of a row
abbrev pub word_width : ℕ
word_width = 10

-- 8: one u32, a row
abbrev pub index_width : ℕ
index_width = 1

-- 9: eight u32, six settings, index start and index count
abbrev pub run_width : ℕ
run_width = 8

-- ---- the u32 of a row, by place

-- modify flags
abbrev pub flags_word : ℕ
flags_word = 0

-- the numbers of its entries in tables 1, 2 and 3
abbrev pub matrix_word : ℕ
matrix_word = 1

abbrev pub viewport_word : ℕ
viewport_word = 2

abbrev pub scale_word : ℕ
scale_word = 3

-- the colour word
abbrev pub colour_word : ℕ
colour_word = 4

-- first light in table 4, and light count
abbrev pub light_word : ℕ
light_word = 5

abbrev pub lights_word : ℕ
lights_word = 6

-- texgen mode
abbrev pub texgen_word : ℕ
texgen_word = 7

-- fog: 0, or the place in table 6 plus 1
abbrev pub fog_word : ℕ
fog_word = 8

-- the number of its entry in table 5
abbrev pub lookat_word : ℕ
lookat_word = 9

-- ---- the f32 of a row, by place: the position x y z from 0 on

-- s and t
abbrev pub s_float : ℕ
s_float = 3

abbrev pub t_float : ℕ
t_float = 4

-- the screen numbers: x, y, z, and one more
abbrev pub screen_x : ℕ
screen_x = 5

abbrev pub screen_y : ℕ
screen_y = 6

abbrev pub screen_z : ℕ
screen_z = 7

-- ---- a run, by place

-- how many settings it begins with: material, render mode, fog colour, primitive depth, cull, unclipped
abbrev pub settings_wide : ℕ
settings_wide = 6

-- where its indices start, and how many there are
abbrev pub start_field : ℕ
start_field = 6

abbrev pub count_field : ℕ
count_field = 7
