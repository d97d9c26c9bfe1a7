pub mod Beat
