-- FLTD, FLTS, FIXD, FIXS and CHSF.
pub mod Fix
